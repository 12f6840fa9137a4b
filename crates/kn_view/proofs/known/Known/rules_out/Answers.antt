use Rattle.std.proofs.Common.{◌+◌, ◌∙◌, ap, true, option_map, slice_set}
use Rattle.kn_view.specs.Looks.{sweep_at}
use Rattle.kn_view.specs.Parts.{Part}
use Rattle.kn_view.proofs.Looked.{refused_at, seen_as_before}
use Rattle.kn_view.proofs.known.Known.rules_out.Goals as goal

pub returns : goal.returns
returns c =
    let k = c.self.inside in
    let look = c.index_mut-look.result.now in
    (λ t. record {
      position = k.position;
      polled = k.polled;
      target = k.target;
      locals = k.locals;
      header = k.header;
      seen = seen_as_before (k.calls + 1) k.looks.items c.args.frame look (k.calls + 1) c.index_mut-look.ensures.value t;
      refused = refused_at (k.calls + 1) k.looks.items c.args.frame look.seen_in look.word t;
      taken = k.taken;
      sweep = option_map sweep_at k.sweep;
      work = k.work;
      stored = k.stored;
      wanted = k.wanted;
      counted = k.counted.items;
      ended = k.ended.items;
      over = k.over;
      calls = k.calls;
      births = k.births;
    })
    ∙ ap (λ (q : Part). record q { refused = slice_set q.refused c.args.frame true }) c.self.view_is
