use Rattle.std.proofs.Common.{◌≡◌, ◌+◌, ◌∙◌, ap, None, false, length, option_map, replicate, cond, rules}
use Rattle.kn_view.specs.Looks.{sweep_at}
use Rattle.kn_view.specs.Parts.{Part}
use Rattle.kn_view.proofs.Looked.{unseen, unrefused}
use Rattle.kn_view.proofs.known.Known.counts.Goals as goal

pub returns : goal.returns
returns c =
    let k = c.self.inside in
    let one : c.from.result ≡ cond c.args.birth 1 0 = search rules in
    (λ t. record {
      position = k.position;
      polled = c.args.word;
      target = k.target;
      locals = k.locals;
      header = None;
      seen = unseen k.calls k.looks.items c.self.invariant.2 t;
      refused = unrefused k.calls k.looks.items c.self.invariant.2 t;
      taken = k.taken;
      sweep = option_map sweep_at k.sweep;
      work = k.work;
      stored = k.stored;
      wanted = k.wanted;
      counted = k.counted.items;
      ended = k.ended.items;
      over = k.over;
      calls = k.calls + 1;
      births = k.births + one t;
    })
    ∙ ap (λ (q : Part). record q {
      polled = c.args.word;
      header = None;
      seen = replicate (length q.seen) None;
      refused = replicate (length q.seen) false;
      calls = q.calls + 1;
      births = q.births + cond c.args.birth 1 0;
    }) c.self.view_is
