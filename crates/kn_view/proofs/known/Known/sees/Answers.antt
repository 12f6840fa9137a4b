use Rattle.std.proofs.Common.{◌+◌, ◌∙◌, ap, Some, option_map, slice_set}
use Rattle.kn_view.specs.Looks.{sweep_at}
use Rattle.kn_view.specs.Parts.{Part}
use Rattle.kn_view.proofs.Looked.{seen_at, refused_as_before}
use Rattle.kn_view.proofs.known.Known.sees.Goals as goal

pub returns-clause-seen : goal.returns-clause-seen
returns-clause-seen c =
    let k = c.self.inside in
    let look = c.index_mut-look.result.now in
    (λ t. record {
      position = k.position;
      polled = k.polled;
      target = k.target;
      locals = k.locals;
      header = k.header;
      seen = seen_at (k.calls + 1) k.looks.items c.args.frame c.args.word look.refused_in t;
      refused = refused_as_before (k.calls + 1) k.looks.items c.args.frame look (k.calls + 1) c.args.word c.index_mut-look.ensures.value t;
      taken = k.taken;
      sweep = option_map sweep_at k.sweep;
      work = k.work;
      stored = k.stored;
      wanted = k.wanted;
      counted = k.counted.items;
      ended = k.ended.items;
      over = k.over;
      calls = k.calls;
      births = k.births;
    })
    ∙ ap (λ (q : Part). record q { seen = slice_set q.seen c.args.frame (Some c.args.word) }) c.self.view_is
