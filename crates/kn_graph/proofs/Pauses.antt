-- A sound graph after a pause: what stays uncondemned is reachable, and so is what it holds.
use Rattle.std.proofs.Common.{◌≡◌, ℕ, ◌+◌, ◌<◌, Bool, false, [], ◌∷◌, Option, Some, None, refl, arith}
use Rattle.kn_graph.specs.Ground.{Ground}
use Rattle.kn_graph.specs.Graph.{Graph, shapes, pointers}
use Rattle.kn_graph.specs.Reachable.{IsReachable, in_local, in_global, in_stable, in_back}
use Rattle.kn_graph.specs.Collections.{Condemns, with_condemned}
use Rattle.kn_graph.specs.Sound.{Alive, IsSound}

module _ (z : Ground) (g : Graph) (s : IsSound z g) (flag : ℕ → Bool) (condemns : Condemns g flag)
    (e : ℕ) (next : e ≡ g.paused + 1) (last_done : g.done ≡ g.paused) where
  spared : (x : Option ℕ) → ((n : ℕ) → x ≡ Some n → IsReachable g n) → Alive g.born (shapes g) x →
      Alive g.born (shapes (with_condemned g flag)) x
  spared None f a = tt
  spared (Some n) f a = (a.0, (condemns.born n a.0).1 (f n refl, a.1))

  was_free : (n : ℕ) → n < g.born → flag n ≡ false → (g.object n).condemned ≡ false
  was_free n near free = ((condemns.born n near).0 free).1

  held : (n : ℕ) → n < g.born → flag n ≡ false → (f : ℕ) → Alive g.born (shapes (with_condemned g flag)) (pointers g n f)
  held n near free f =
      let old = (condemns.born n near).0 free in
      spared (pointers g n f) (λ m e. (n ∷ old.0.0, ((f, e), old.0.1))) ((s.fields n near).values old.1 f)

  pub pause_sound : IsSound z (record (with_condemned g flag) { paused = e })
  pause_sound = record {
    roots = record {
      locals = λ i r. spared (g.local i r) (λ n e. ([], in_local i r e)) (s.roots.locals i r);
      globals = λ i. spared (g.global i) (λ n e. ([], in_global i e)) (s.roots.globals i);
      stables = λ h. spared (g.stable h) (λ n e. ([], in_stable h e)) (s.roots.stables h);
      backs = λ b pos. spared (g.back b) (λ n e. ([], in_back b e pos)) (s.roots.backs b pos);
    };
    ranges = s.ranges;
    names = s.names;
    apart = s.apart;
    fields = λ n near. record { kinds = (s.fields n near).kinds; values = λ free f. held n near free f };
    flags = λ n near. let old = s.flags n near in record {
      released = λ free. old.released (was_free n near free);
      queued = λ free. old.queued (was_free n near free);
      tied = old.tied;
      finalized = old.finalized;
      let_go = old.let_go;
    };
    cells = λ n near. let old = s.cells n near in record { laid_out = old.laid_out; placed = old.placed };
    epochs = let old = s.epochs in omega arith;
    ahead = omega arith;
    settled = λ same n near. let old = s.epochs in absurd (omega arith);
  }
