-- The rule of marking: what holds of colours between any two steps from the snapshot to the end of marking.
use Rattle.std.specs.Prelude.{◌≡◌, ℕ, ◌<◌, ◌≤◌, ◌⊎◌, Bool, true, false, Option, Some, None}
use Rattle.kn_graph.specs.Ground.{Ground}
use Rattle.kn_graph.specs.Graph.{Graph, pointers}
use Rattle.kn_graph.specs.Reachable.{IsReachable}
use Rattle.kn_cms_rule.specs.declared.stages.Colour.{Colour}
use Rattle.kn_cms_rule.specs.declared.stages.Colour.TheVariants.{Black}
use Rattle.kn_cms_rule.specs.declared.stages.Doing.{Doing}
use Rattle.kn_cms_rule.specs.declared.stages.Doing.TheVariants.{Loaded, Shaded}
use Rattle.kn_cms_rule.specs.State.{is_coloured, IsRefField}

-- a value is null or coloured
abbrev pub IsNullOrColoured : (ℕ → Colour) → Option ℕ → Type 0
IsNullOrColoured colour None = Unit {0}
IsNullOrColoured colour (Some n) = is_coloured (colour n) ≡ true

-- object n was reachable at the snapshot, or was born after it
abbrev pub IsKept : Graph → ℕ → ℕ → Type 0
IsKept at born n = IsReachable at n ⊎ ((at.born ≤ n) × (n < born))

-- a value is null or an object that was reachable at the snapshot or born after it
abbrev pub IsNullOrKept : Graph → ℕ → Option ℕ → Type 0
IsNullOrKept at born None = Unit {0}
IsNullOrKept at born (Some n) = IsKept at born n

-- a field holds its value of the snapshot and was not looked at yet, or that value is null or coloured
abbrev pub IsFieldKept : (ℕ → Colour) → Option ℕ → Option ℕ → Bool → Type 0
IsFieldKept colour before now looked = ((now ≡ before) × (looked ≡ false)) ⊎ IsNullOrColoured colour before

-- each object that a local or a global held at the snapshot is coloured
pub record RootsColoured (at : Graph) (colour : ℕ → Colour) : Type 0 where
  pub locals : (i r : ℕ) → IsNullOrColoured colour (at.local i r)
  pub globals : (i : ℕ) → IsNullOrColoured colour (at.global i)

-- each object born after the snapshot is black
abbrev pub NewerBlack : Graph → ℕ → (ℕ → Colour) → Type 0
NewerBlack at born colour = (n : ℕ) → at.born ≤ n → n < born → colour n ≡ Black

-- each field of an object that was reachable at the snapshot holds its value of the snapshot and was not looked at yet, or
-- that value is null or coloured
abbrev pub FieldsKept : Graph → (ℕ → ℕ → Option ℕ) → (ℕ → Colour) → (ℕ → ℕ → Bool) → Type 0
FieldsKept at points colour looked = (n f : ℕ) → IsReachable at n → IsFieldKept colour (pointers at n f) (points n f) (looked n f)

-- every reference field of a black object born before the snapshot was looked at
abbrev pub BlacksLooked : Ground → Graph → (ℕ → Colour) → (ℕ → ℕ → Bool) → Type 0
BlacksLooked z at colour looked = (n f : ℕ) → n < at.born → colour n ≡ Black → IsRefField z at n f → looked n f ≡ true

-- a thread that has loaded a field of an object born before the snapshot has loaded its value of the snapshot, or that value
-- is null or coloured
abbrev pub LoadsKept : ℕ → Graph → (ℕ → Colour) → (ℕ → Doing) → Type 0
LoadsKept threads at colour doing = (i n f : ℕ) (v : Option ℕ) → i < threads → doing i ≡ Loaded n f v → n < at.born →
    (v ≡ pointers at n f) ⊎ IsNullOrColoured colour (pointers at n f)

-- where a thread is about to store into an object born before the snapshot, the field's value of the snapshot is null or
-- coloured
abbrev pub ShadesKept : ℕ → Graph → (ℕ → Colour) → (ℕ → Doing) → Type 0
ShadesKept threads at colour doing = (i n f : ℕ) → i < threads → doing i ≡ Shaded n f → n < at.born → IsNullOrColoured colour (pointers at n f)

-- every object that a local, a global or a field of a kept object holds is kept, where an object is kept that was reachable
-- at the snapshot or born after it
pub record HoldKept (at : Graph) (born : ℕ) (local : ℕ → ℕ → Option ℕ) (global : ℕ → Option ℕ) (points : ℕ → ℕ →
    Option ℕ) : Type 0 where
  pub locals : (i r : ℕ) → IsNullOrKept at born (local i r)
  pub globals : (i : ℕ) → IsNullOrKept at born (global i)
  pub fields : (n f : ℕ) → IsKept at born n → IsNullOrKept at born (points n f)

-- every object that a thread has loaded is kept
abbrev pub LoadedKept : ℕ → Graph → ℕ → (ℕ → Doing) → Type 0
LoadedKept threads at born doing = (i n f : ℕ) (v : Option ℕ) → i < threads → doing i ≡ Loaded n f v → IsNullOrKept at born v

-- every coloured object is kept
abbrev pub ColouredKept : Graph → ℕ → (ℕ → Colour) → Type 0
ColouredKept at born colour = (n : ℕ) → is_coloured (colour n) ≡ true → IsKept at born n

-- the rule of marking, of a snapshot, the graph since, the colours, the fields looked at and what the threads are at
pub record MarkRule (z : Ground) (at g : Graph) (colour : ℕ → Colour) (looked : ℕ → ℕ → Bool) (doing : ℕ → Doing) : Type 0 where
  pub roots : RootsColoured at colour
  pub newer : NewerBlack at g.born colour
  pub fields : FieldsKept at (pointers g) colour looked
  pub blacks : BlacksLooked z at colour looked
  pub loads : LoadsKept z.sizes.threads at colour doing
  pub shades : ShadesKept z.sizes.threads at colour doing
  pub held : HoldKept at g.born g.local g.global (pointers g)
  pub loaded : LoadedKept z.sizes.threads at g.born doing
  pub coloured : ColouredKept at g.born colour
