-- What a proper table asks of a record by itself: given the record that holds it, and given its place in the table.
-- Assumes nothing.
use mathlib.Core.Path.{◌≡◌}
use mathlib.Core.Logic.{◌⊎◌, inl, inr}
use mathlib.Core.List.{List, [], ◌++◌}
use Prim.Native.Nat.{ℕ, suc, ◌+◌, ◌-◌, ◌≤◌, ◌<◌}
use native.Mathlib.Omega.{arith}
use lib.Dec.{T}
use lib.ListN.{length, drop}
use Rattle.text.specs.Parts.{first_line}
use Rattle.rules.specs.Kind
use Rattle.rules.specs.Kind.{holds_sections, holds_elements, is_holder}
use Rattle.rules.proofs.Basics.{All, all_map, all_get_d}
use Rattle.table.specs.Proper.{with_parent, Tiled, IsTopRecord, IsElementRecord, IsItemRecord, IsLineRecord, Within, Nearest}
use Rattle.table.specs.Records.{no_record, at, up}
use Rattle.table.specs.Sections.{section_end, section_start, row_detail}
use Rattle.table.specs.Closers.{closers_end, Sought}
use Rattle.table.proofs.Basics.{on, split}
use Rattle.table.proofs.Laws.Proper.{with_parent-none}
use Rattle.table.proofs.Laws.Records.{at-run}
use Rattle.table.specs.declared.record.Record.{Record}

-- ---- a record r, and the record c that holds it

pub record Child (s : List ℕ) (c r : Record) : Type 0 where
  pub holder : T (is_holder c.kind)
  pub within : Within c r
  pub section : r.kind ≡ Kind.section → (r.start ≡ section_start s c) × (r.end ≡ section_end s c)
  pub top : T (holds_sections c.kind) → IsTopRecord s c r
  pub element : T (holds_elements c.kind) → IsElementRecord s c.to r
  pub item : c.kind ≡ Kind.list → IsItemRecord s c.to r
  pub property : c.kind ≡ Kind.property_drawer → IsLineRecord s c.to Kind.node_property (λ l. 0) r
  pub row : c.kind ≡ Kind.table → IsLineRecord s c.to Kind.row row_detail r

-- ---- its place in a table R

-- records X fill the inner span of r, from its first non-blank line on
abbrev pub Filled : List ℕ → Record → List Record → Type 0
Filled s r X = Tiled (first_line s r.from r.to) r.to X

-- what stands between record q and record k is inside q
abbrev pub Inside : List Record → ℕ → ℕ → Type 0
Inside R q k = (i : ℕ) → q < i → i < k → q ≤ (at R i).parent

-- record i is followed by a section of its own
abbrev pub SectionAfter : List Record → ℕ → Type 0
SectionAfter R i = (suc i < length R) × ((at R (suc i)).kind ≡ Kind.section) × ((at R (suc i)).parent ≡ i)

-- r has index j, and c holds it, where closers are sought up to h
pub record Stands (s : List ℕ) (R : List Record) (j h : ℕ) (c r : Record) : Type 0 where
  pub earlier : r.parent < j
  pub together : Inside R r.parent j
  pub heading : r.kind ≡ Kind.heading → Nearest R j r.parent
  pub section : T (holds_sections r.kind) → section_start s r < section_end s r → SectionAfter R j
  pub filled : T (is_holder r.kind) → Filled s r (with_parent j (drop (suc j) R))
  pub child : Child s c r
  pub sought : Sought s h c r

-- record j of the table
abbrev pub Local : List ℕ → List Record → ℕ → Type 0
Local s R j = Stands s R j (closers_end R (at R j).parent) (up R j) (at R j)

pub stands-local : {s : List ℕ} {R : List Record} {j h : ℕ} {c r : Record} → at R j ≡ r → at R r.parent ≡ c → closers_end R r.parent ≡ h
    → Stands s R j h c r → Local s R j
stands-local e d f x = rw (e, d, f) x

-- ---- records E of a container c, at index k of a table

-- a record whose parent is before a, or from b on
abbrev pub Outside : ℕ → ℕ → Record → Type 0
Outside a b r = (r.parent < a) ⊎ (b ≤ r.parent)

pub outside_wider : {a b a' b' : ℕ} {X : List Record} → All (Outside a b) X → a ≤ a' → b' ≤ b → All (Outside a' b') X
outside_wider x h k = all_map (λ r o. on o (λ i. inl (omega arith)) (λ i. inr (omega arith))) x

pub with_parent-outside : {a b : ℕ} {X : List Record} (i : ℕ) → All (Outside a b) X → a ≤ i → i < b → with_parent i X ≡ []
with_parent-outside i x h k = with_parent-none i (all_map (λ r o e. on o (λ j. omega arith) (λ j. omega arith)) x)

-- nothing after them has a parent among them
pub record Placed (R : List Record) (c : Record) (q k : ℕ) (E post : List Record) : Type 0 where
  pub here : drop k R ≡ E ++ post
  pub holder : at R q ≡ c
  pub before : q < k
  pub inside : Inside R q k
  pub apart : All (Outside k (k + length E)) post

-- right after their container
pub placed_first : {R : List Record} {c : Record} {q : ℕ} {E post : List Record} → drop (suc q) R ≡ E ++ post → at R q ≡ c
    → All (Outside (suc q) (suc q + length E)) post → Placed R c q (suc q) E post
placed_first d e x = record { here = d; holder = e; before = omega arith; inside = λ i a b. absurd (omega arith); apart = x }

-- what is inside q goes on by records whose parents are q or later
pub inside-more : (R X Y : List Record) (q k : ℕ) → drop k R ≡ X ++ Y → Inside R q k → All (λ r. q ≤ r.parent) X
    → (m : ℕ) → m ≡ k + length X → Inside R q m
inside-more R X Y q k d h x m e i a b =
    split i k (h i a)
    (λ g. rw (at-run R X Y k d (i - k) i (omega arith) (omega arith)) (all_get_d no_record x (i - k) (omega arith)))
