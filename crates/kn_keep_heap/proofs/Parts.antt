-- What the views say after one of them changed.
use Rattle.std.proofs.Common.{◌≡◌, ℕ, ◌<◌, inl, inr, Bool, true, false, cond, eqb, List, length, Option, Some, slice_get, slice_set, slice_index}
use Rattle.std.proofs.Common.{refl, sym, ap, ◌∙◌}
use Rattle.std.proofs.lemmas.Bool.Decides.{eqb_tells}
use Rattle.kn_base.specs.declared.places.Place.{Place}
use Rattle.kn_base.specs.declared.places.Place.TheVariants.{Local}
use Rattle.kn_base.specs.Functions.{upd, Tells}
use Rattle.kn_base.proofs.Updates.{part_upd, part_same, get_set}
use Rattle.kn_graph.specs.declared.entries.Entry.{Entry}
use Rattle.kn_rule.specs.declared.positions.Position.{Position}
use Rattle.kn_rule.specs.declared.parts.Taken.{Taken}
use Rattle.kn_rule.specs.Views.{View, Views, Open, views_of, owns, local_of, flattened, Rest, rest_of}
use Rattle.kn_rule.specs.Places.{put}
use Rattle.kn_rule.proofs.Indexes.{index_set}
use Rattle.kn_keep_heap.specs.Answered.{Staying, staying, Stays}

pub owns_set : (l : List (Option Open)) (k : ℕ) (x : Option Open) (j : ℕ) → k < length l →
    flattened (slice_get (slice_set l k x) j) ≡ upd (λ i. flattened (slice_get l i)) k x j
owns_set l k x j h = ap flattened (get_set l k x j h) ∙ elim (eqb k j) as (λ b. flattened (cond b (Some x) (slice_get l j)) ≡ cond b x
    (flattened (slice_get l j))) [ true ↦ refl | false ↦ refl ]

module _ (caller : ℕ → View) (by : ℕ) (v : View) where
  V : Views
  V = views_of caller

  -- a local, or a frame, of the view changed
  pub local_put : (r w : ℕ) → r < length (caller by).locals → v.locals ≡ slice_set (caller by).locals r w →
      ◌≡◌ {A = ℕ → ℕ → ℕ} (λ c. local_of (upd caller by v c)) (upd (λ c. local_of (caller c)) by (upd (local_of (caller by)) r w))
  local_put r w h e = part_upd {B = ℕ → ℕ} local_of caller by v
      ∙ ap (upd {A = ℕ → ℕ} (λ c. local_of (caller c)) by) (λ t j. (ap (λ l. slice_index l j) e ∙ index_set (caller by).locals r w j h) t)

  pub own_put : (k : ℕ) (x : Option Open) → k < length (caller by).owned → v.owned ≡ slice_set (caller by).owned k x →
      ◌≡◌ {A = ℕ → ℕ → Option Open} (λ c. owns (upd caller by v c)) (upd (λ c. owns (caller c)) by (upd (owns (caller by)) k x))
  own_put k x h e = part_upd {B = ℕ → Option Open} owns caller by v
      ∙ ap (upd {A = ℕ → Option Open} (λ c. owns (caller c)) by) (λ t j. (ap (λ l. flattened (slice_get l j)) e
      ∙ owns_set (caller by).owned k x j h) t)

  pub local_same : v.locals ≡ (caller by).locals → ◌≡◌ {A = ℕ → ℕ → ℕ} (λ c. local_of (upd caller by v c)) (λ c. local_of (caller c))
  local_same e = part_same {B = ℕ → ℕ} local_of caller by v (λ t j. slice_index (e t) j)

  pub own_same : v.owned ≡ (caller by).owned → ◌≡◌ {A = ℕ → ℕ → Option Open} (λ c. owns (upd caller by v c)) (λ c. owns (caller c))
  own_same e = part_same {B = ℕ → Option Open} owns caller by v (λ t j. flattened (slice_get (e t) j))

  pub taken_same : v.taken ≡ (caller by).taken → ◌≡◌ {A = ℕ → Option Taken} (λ c. (upd caller by v c).taken) (λ c. (caller c).taken)
  taken_same e = part_same (λ (x : View). x.taken) caller by v e

  pub taken_put : ◌≡◌ {A = ℕ → Option Taken} (λ c. (upd caller by v c).taken) (upd (λ c. (caller c).taken) by v.taken)
  taken_put = part_upd (λ (x : View). x.taken) caller by v

-- the words of locals, one of them stored
local_word_at : (word : ℕ → ℕ → ℕ) (by r n c i : ℕ) → Tells by c →
    cond (cond (eqb by c) (eqb r i) false) n (word c i) ≡ upd word by (upd (word by) r n) c i
local_word_at word by r n c i (inl t) = ap (λ b. cond (cond b (eqb r i) false) n (word c i)) t.0 ∙ (ap (λ d. cond (eqb r i) n (word d i)) (sym t.1)
    ∙ ap (λ (b : Bool). cond {A = ℕ → ℕ} b (upd (word by) r n) (word c) i) (sym t.0))
local_word_at word by r n c i (inr t) = ap (λ b. cond (cond b (eqb r i) false) n (word c i)) t.0
    ∙ ap (λ (b : Bool). cond {A = ℕ → ℕ} b (upd (word by) r n) (word c) i) (sym t.0)

pub local_words : (word : Place → ℕ) (by r n : ℕ) → ◌≡◌ {A = ℕ → ℕ → ℕ} (λ c i. put word (Local by r) n (Local c i))
    (upd (λ c i. word (Local c i)) by (upd (λ i. word (Local by i)) r n))
local_words word by r n = λ t c i. local_word_at (λ c i. word (Local c i)) by r n c i (eqb_tells by c) t

-- what the view of one caller changes, part by part
module _ (caller : ℕ → View) (by : ℕ) (v : View) where
  pub position_put : ◌≡◌ {A = ℕ → Position} (λ c. (upd caller by v c).position) (upd (λ c. (caller c).position) by v.position)
  position_put = part_upd (λ (x : View). x.position) caller by v

  pub position_same : v.position ≡ (caller by).position → ◌≡◌ {A = ℕ → Position} (λ c. (upd caller by v c).position) (λ c. (caller c).position)
  position_same = part_same (λ (x : View). x.position) caller by v

  pub polled_put : ◌≡◌ {A = ℕ → ℕ} (λ c. (upd caller by v c).polled) (upd (λ c. (caller c).polled) by v.polled)
  polled_put = part_upd (λ (x : View). x.polled) caller by v

  pub polled_same : v.polled ≡ (caller by).polled → ◌≡◌ {A = ℕ → ℕ} (λ c. (upd caller by v c).polled) (λ c. (caller c).polled)
  polled_same = part_same (λ (x : View). x.polled) caller by v

  pub target_put : ◌≡◌ {A = ℕ → Option ℕ} (λ c. (upd caller by v c).target) (upd (λ c. (caller c).target) by v.target)
  target_put = part_upd (λ (x : View). x.target) caller by v

  pub target_same : v.target ≡ (caller by).target → ◌≡◌ {A = ℕ → Option ℕ} (λ c. (upd caller by v c).target) (λ c. (caller c).target)
  target_same = part_same (λ (x : View). x.target) caller by v

  pub header_put : ◌≡◌ {A = ℕ → Option ℕ} (λ c. (upd caller by v c).header) (upd (λ c. (caller c).header) by v.header)
  header_put = part_upd (λ (x : View). x.header) caller by v

  pub header_same : v.header ≡ (caller by).header → ◌≡◌ {A = ℕ → Option ℕ} (λ c. (upd caller by v c).header) (λ c. (caller c).header)
  header_same = part_same (λ (x : View). x.header) caller by v

  pub log_put : ◌≡◌ {A = ℕ → List Entry} (λ c. (upd caller by v c).log) (upd (λ c. (caller c).log) by v.log)
  log_put = part_upd (λ (x : View). x.log) caller by v

  pub log_same : v.log ≡ (caller by).log → ◌≡◌ {A = ℕ → List Entry} (λ c. (upd caller by v c).log) (λ c. (caller c).log)
  log_same = part_same (λ (x : View). x.log) caller by v

  pub calls_put : ◌≡◌ {A = ℕ → ℕ} (λ c. (upd caller by v c).calls) (upd (λ c. (caller c).calls) by v.calls)
  calls_put = part_upd (λ (x : View). x.calls) caller by v

  pub calls_same : v.calls ≡ (caller by).calls → ◌≡◌ {A = ℕ → ℕ} (λ c. (upd caller by v c).calls) (λ c. (caller c).calls)
  calls_same = part_same (λ (x : View). x.calls) caller by v

  pub births_put : ◌≡◌ {A = ℕ → ℕ} (λ c. (upd caller by v c).births) (upd (λ c. (caller c).births) by v.births)
  births_put = part_upd (λ (x : View). x.births) caller by v

  pub births_same : v.births ≡ (caller by).births → ◌≡◌ {A = ℕ → ℕ} (λ c. (upd caller by v c).births) (λ c. (caller c).births)
  births_same = part_same (λ (x : View). x.births) caller by v

  pub width_same : length v.locals ≡ length (caller by).locals → length v.owned ≡ length (caller by).owned →
      ◌≡◌ {A = ℕ → ℕ × ℕ} (λ c. (length (upd caller by v c).locals, length (upd caller by v c).owned))
      (λ c. (length (caller c).locals, length (caller c).owned))
  width_same e f = part_same {B = ℕ × ℕ} (λ (x : View). (length x.locals, length x.owned)) caller by v (λ u. (e u, f u))

module _ (caller : ℕ → View) (by : ℕ) (v : View) where
  pub rest_same : rest_of v ≡ rest_of (caller by) → ◌≡◌ {A = ℕ → Rest} (λ c. rest_of (upd caller by v c)) (λ c. rest_of (caller c))
  rest_same = part_same rest_of caller by v

  pub rest_put : ◌≡◌ {A = ℕ → Rest} (λ c. rest_of (upd caller by v c)) (upd (λ c. rest_of (caller c)) by (rest_of v))
  rest_put = part_upd rest_of caller by v

  -- what the view changes, where the rest of it stays
  pub views_moved : Stays (caller by) v → {position : ℕ → Position} {local : ℕ → ℕ → ℕ} {header : ℕ → Option ℕ}
      {own : ℕ → ℕ → Option Open}
      {taken : ℕ → Option Taken} {log : ℕ → List Entry} →
      ◌≡◌ {A = ℕ → Position} (λ c. (upd caller by v c).position) position →
      ◌≡◌ {A = ℕ → ℕ → ℕ} (λ c. local_of (upd caller by v c)) local →
      ◌≡◌ {A = ℕ → Option ℕ} (λ c. (upd caller by v c).header) header →
      ◌≡◌ {A = ℕ → ℕ → Option Open} (λ c. owns (upd caller by v c)) own →
      ◌≡◌ {A = ℕ → Option Taken} (λ c. (upd caller by v c).taken) taken →
      ◌≡◌ {A = ℕ → List Entry} (λ c. (upd caller by v c).log) log →
      views_of (upd caller by v)
      ≡ record (views_of caller) { position = position; local = local; header = header; own = own; taken = taken; log = log }
  views_moved e p l h o k g = λ t.
      let same : ℕ → Staying = part_same staying caller by v e t in
      record {
        position = p t;
        polled = λ c. (same c).polled;
        target = λ c. (same c).target;
        local = l t;
        header = h t;
        own = o t;
        taken = k t;
        log = g t;
        calls = λ c. (same c).calls;
        births = λ c. (same c).births;
        rest = λ c. (same c).rest;
        width = λ c. (same c).width;
      }

  -- a call is answered
  pub views_answer : Stays (caller by) v → {local : ℕ → ℕ → ℕ} {own : ℕ → ℕ → Option Open} {taken : ℕ → Option Taken} →
      ◌≡◌ {A = ℕ → ℕ → ℕ} (λ c. local_of (upd caller by v c)) local →
      ◌≡◌ {A = ℕ → ℕ → Option Open} (λ c. owns (upd caller by v c)) own →
      ◌≡◌ {A = ℕ → Option Taken} (λ c. (upd caller by v c).taken) taken →
      views_of (upd caller by v) ≡ record (views_of caller) {
        position = upd (λ c. (caller c).position) by v.position;
        local = local;
        header = upd (λ c. (caller c).header) by v.header;
        own = own;
        taken = taken;
        log = upd (λ c. (caller c).log) by v.log;
      }
  views_answer e l o k = views_moved e (position_put caller by v) l (header_put caller by v) o k (log_put caller by v)
