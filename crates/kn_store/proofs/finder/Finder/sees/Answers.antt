use Rattle.std.proofs.Common.{◌≡◌, List, [], ◌∷◌, ◌++◌, length, sym, ap, subst, ◌∙◌, rules}
use Rattle.std.specs.List.{AllByRecursion}
use Rattle.kn_rule.specs.Decoding.{PacksFrame}
use Rattle.kn_store.specs.Search.{KeepsBest}
use Rattle.kn_store.specs.declared.finder.Seen.{Seen}
use Rattle.kn_store.proofs.Sights.{all_more, best_with}
use Rattle.kn_store.proofs.finder.Finder.sees.Goals as goal

pub invariant_of-self : goal.invariant_of-self
invariant_of-self c =
    let f = c.self.inside in
    let x : Seen = record { word = c.args.word; refused = c.match-self.refused } in
    let more : c.push.new.self.items ≡ f.seen.items ++ x ∷ [] = search rules in
    let number : c.len-number.result ≡ length f.seen.items = search rules in
    let b' = c.sees.new.self in (
      c.self.invariant.0,
      c.self.invariant.1,
      c.self.invariant.2,
      search rules,
      search rules,
      c.self.invariant.5,
      c.self.invariant.6,
      subst (AllByRecursion (λ (s : Seen). PacksFrame s.word)) (sym more)
          (all_more (λ (s : Seen). PacksFrame s.word) f.seen.items x c.self.invariant.7 c.requires.packs),
      subst (λ (l : List Seen). KeepsBest f.class l (length l) b'.number b'.rank) (sym more)
          (best_with f.class f.seen.items x f.best b' c.rank_for.result c.self.invariant.8 c.rank_for.ensures
          (λ less. c.sees.ensures.better less ∙ ap (λ n. record { number = n; rank = c.rank_for.result }) number) c.sees.ensures.same),
    )
