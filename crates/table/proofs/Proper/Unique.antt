-- Two proper tables of one text are the same table. Where they agree so far, their next records have the same parent: of two different ones the
-- later is closed in one table, and still wants children in the other. So they have the same start, and are the same record.
-- Assumes nothing.
use mathlib.Core.Path.{◌≡◌, refl, sym, ap, ◌∙◌}
use mathlib.Core.List.{List, [], ◌∷◌, ◌++◌}
use Prim.Native.Nat.{ℕ, zero, suc, ◌+◌, ◌<◌}
use native.Mathlib.Omega.{arith}
use lib.Dec.{T}
use lib.ListN.{length, length-append, get_or-append}
use lib.Seq.{get_or-append_seam, get_or-append-add, append_snoc}
use borrow.Table.Steps.{cases}
use Rattle.text.specs.Lines.{Line}
use Rattle.text.specs.LineNumbers.{line_number}
use Rattle.text.specs.Parts.{first_line}
use Rattle.rules.specs.Headings.{is_heading}
use Rattle.rules.specs.Kind
use Rattle.rules.specs.Kind.{is_holder}
use Rattle.rules.proofs.Basics.{all_of}
use Rattle.rules.proofs.Laws.Kind.{Holds, sections, elements, properties, rows, items, holder-holds}
use Rattle.table.specs.Proper.{with_parent, children, Tiled, Has, IsHeadingRecord, IsSectionRecord, IsTopRecord, HasFound, IsElementRecord, IsItemRecord, IsLineRecord}
use Rattle.table.specs.Proper.{EachLater, Proper}
use Rattle.table.specs.Records.{no_record, at, up}
use Rattle.table.specs.Sections.{line_at, row_detail}
use Rattle.table.proofs.Laws.Proper.{with_parent-append, with_parent-yes, with_parent-none}
use Rattle.table.proofs.Proper.Stands.{Child}
use Rattle.table.specs.declared.record.Record.{Record}

-- ---- a record is settled by its start, its parent, its line number and its container

record-path : (r q : Record) → r.kind ≡ q.kind → r.start ≡ q.start → r.end ≡ q.end → r.from ≡ q.from → r.to ≡ q.to
    → r.parent ≡ q.parent → r.detail ≡ q.detail → r.line ≡ q.line → r ≡ q
record-path r q a b c d e f g h = λ i. record { kind = a i; start = b i; end = c i; from = d i; to = e i; parent = f i; detail = g i; line = h i }

module _ (r q : Record) (start : r.start ≡ q.start) (parent : r.parent ≡ q.parent) (line : r.line ≡ q.line) where
  has-only : {k e i j d : ℕ} → Has r k e i j d → Has q k e i j d → r ≡ q
  has-only x y = record-path r q (cc) start (cc) (cc) (cc) parent (cc) line

  module _ (s : List ℕ) (c : Record) where
    heading-only : IsHeadingRecord s r → IsHeadingRecord s q → r ≡ q
    unfolding IsHeadingRecord
    heading-only x y = record-path r q (cc) start (cc) (cc) (cc) parent (cc) line

    section-only : IsSectionRecord s c r → IsSectionRecord s c q → r ≡ q
    unfolding IsSectionRecord
    section-only x y = record-path r q (cc) start (cc) (cc) (cc) parent (cc) line

    top-only : IsTopRecord s c r → IsTopRecord s c q → r ≡ q
    unfolding IsTopRecord
    top-only x y =
        let f : is_heading (line_at s r.start) ≡ is_heading (line_at s q.start) = rw start in
        cases (is_heading (line_at s q.start))
        (λ e. heading-only (rw (f, e, IsTopRecord) at x) (rw (e, IsTopRecord) at y))
        (λ e. section-only (rw (f, e, IsTopRecord) at x) (rw (e, IsTopRecord) at y))

    element-only : IsElementRecord s c.to r → IsElementRecord s c.to q → r ≡ q
    unfolding IsElementRecord HasFound
    element-only x y = record-path r q (cc) start (cc) (cc) (cc) parent (cc) line

    item-only : IsItemRecord s c.to r → IsItemRecord s c.to q → r ≡ q
    unfolding IsItemRecord HasFound
    item-only x y = record-path r q (cc) start (cc) (cc) (cc) parent (cc) line

    line-only : (k : ℕ) (d : Line → ℕ) → IsLineRecord s c.to k d r → IsLineRecord s c.to k d q → r ≡ q
    unfolding IsLineRecord
    line-only k d x y = record-path r q (cc) start (cc) (cc) (cc) parent (cc) line

    child-only : Child s c r → Child s c q → r ≡ q
    child-only x y = go (holder-holds c.kind x.holder)
      where
        go : Holds c.kind → r ≡ q
        go (sections h) = top-only (x.top h) (y.top h)
        go (elements h) = element-only (x.element h) (y.element h)
        go (properties h) = line-only Kind.node_property (λ l. 0) (x.property h) (y.property h)
        go (rows h) = line-only Kind.row row_detail (x.row h) (y.row h)
        go (items h) = item-only (x.item h) (y.item h)

proper-child : (s : List ℕ) (R : List Record) → Proper s R → EachLater R (λ k. Child s (up R k) (at R k))
proper-child s R h k a b =
    record {
      holder = h.holders k a b;
      within = h.within k a b;
      section = h.sections_only k a b;
      top = h.tops k a b;
      element = h.elements k a b;
      item = h.items k a b;
      property = h.properties k a b;
      row = h.rows k a b;
    }

-- ---- records laid end to end, in two parts

-- where records laid from a on end
reach : ℕ → List Record → ℕ
reach a [] = a
reach a (r ∷ X) = reach r.end X

tiled-rest : (a e : ℕ) (X Y : List Record) → Tiled a e (X ++ Y) → Tiled (reach a X) e Y
unfolding Tiled reach
tiled-rest a e [] Y t = t
tiled-rest a e (r ∷ X) Y t = tiled-rest r.end e X Y t.1

-- ---- a table in two parts: the records c ∷ P, then the rest

module _ (s : List ℕ) (c : Record) (P : List Record) where
  abbrev k : ℕ
  k = suc (length P)

  abbrev old : ℕ → Record
  old i = at (c ∷ P) i

  abbrev whole : List Record → List Record
  whole X = (c ∷ P) ++ X

  at_old : (X : List Record) (i : ℕ) → i < k → at (whole X) i ≡ old i
  at_old X i h = get_or-append (c ∷ P) X no_record i h

  length_whole : (X : List Record) → length (whole X) ≡ k + length X
  length_whole X = length-append (c ∷ P) X

  -- where the children that record i has so far end
  from : ℕ → ℕ
  from i = reach (first_line s (old i).from (old i).to) (with_parent i P)

  -- the children of i that are still to come are laid from there to its inner end
  tiled-on : (X : List Record) → Proper s (whole X) → (i : ℕ) → i < k → T (is_holder (old i).kind) → Tiled (from i) (old i).to (with_parent i X)
  unfolding from children
  tiled-on X h i b holds =
      let t = h.tiled i (omega (arith, length_whole X)) (rw (at_old X i b) holds) in
      tiled-rest _ _ (with_parent i P) (with_parent i X) (rw (at_old X i b, with_parent-append i P X) at t)

  -- the next record of a proper table
  module _ (r : Record) (X : List Record) (h : Proper s (whole (r ∷ X))) where
    at_new : at (whole (r ∷ X)) k ≡ r
    at_new = get_or-append_seam (c ∷ P) r X no_record

    inside : k < length (whole (r ∷ X))
    inside = omega (arith, length_whole (r ∷ X))

    line-old : r.line ≡ line_number s r.start
    line-old = rw at_new at (h.lines k inside)

    parent-old : r.parent < k
    parent-old = rw at_new at (h.earlier k (omega arith) inside)

    child-old : Child s (old r.parent) r
    child-old =
        let c = proper-child s (whole (r ∷ X)) h k (omega arith) inside in
        rw (at_new, at_old (r ∷ X) r.parent parent-old) at c

    -- it starts where the children that its parent has so far end
    start-old : r.start ≡ from r.parent
    unfolding Tiled
    start-old = (rw (with_parent-yes r.parent r X refl) at (tiled-on (r ∷ X) h r.parent parent-old child-old.holder)).0

    -- a record after its parent, and before it in the table, gets no more children
    closed : (i : ℕ) → r.parent < i → i < k → with_parent i (r ∷ X) ≡ []
    closed i a b = with_parent-none i (all_of (r ∷ X) no_record none-of)
      where
        none-of : (n : ℕ) → n < length (r ∷ X) → (at (r ∷ X) n).parent ≡ i → ⊥
        none-of zero d e = omega arith
        none-of (suc n) d e =
            let m : ℕ = k + suc n in
            let am : (at (whole (r ∷ X)) m).parent ≡ i = rw (get_or-append-add (c ∷ P) (r ∷ X) (suc n) no_record) e in
            let t = rw (am, at_new) at (h.together m (omega (arith, length_whole (r ∷ X))) k) in
            omega (arith, t b (omega arith))

  -- the parent of a proper table's next record has more children to come in every other proper table
  still_open : (r : Record) (X Y : List Record) → Proper s (whole (r ∷ X)) → Proper s (whole Y) → with_parent r.parent Y ≡ [] → ⊥
  unfolding Tiled
  still_open r X Y h g e =
      let d = child-old r X h in
      let t = rw e at (tiled-on Y g r.parent (parent-old r X h) d.holder) in
      omega (arith, t, start-old r X h, d.within.some, d.within.to)

  -- of two proper tables that agree so far neither has the earlier next parent
  not_earlier : (r q : Record) (X Y : List Record) → Proper s (whole (r ∷ X)) → Proper s (whole (q ∷ Y)) → r.parent < q.parent → ⊥
  not_earlier r q X Y h g l = still_open q Y (r ∷ X) g h (closed r X h q.parent l (parent-old q Y g))

  same-record : (r q : Record) (X Y : List Record) → Proper s (whole (r ∷ X)) → Proper s (whole (q ∷ Y)) → r ≡ q
  same-record r q X Y h g =
      let parent : r.parent ≡ q.parent = omega (arith, not_earlier r q X Y h g, not_earlier q r Y X g h) in
      let start : r.start ≡ q.start = start-old r X h ∙ ap from parent ∙ sym (start-old q Y g) in
      let line : r.line ≡ q.line = line-old r X h ∙ ap (line_number s) start ∙ sym (line-old q Y g) in
      child-only r q start parent line s (old r.parent) (child-old r X h) (rw parent (child-old q Y g))

-- the rest of two proper tables that agree so far
same_rest : (s : List ℕ) (c : Record) (P X Y : List Record) → Proper s ((c ∷ P) ++ X) → Proper s ((c ∷ P) ++ Y) → X ≡ Y
unfolding with_parent
same_rest s c P [] [] h g = refl
same_rest s c P [] (q ∷ Y) h g = absurd (still_open s c P q Y [] g h refl)
same_rest s c P (r ∷ X) [] h g = absurd (still_open s c P r X [] h g refl)
same_rest s c P (r ∷ X) (q ∷ Y) h g =
    let e : r ≡ q = same-record s c P r q X Y h g in
    let h' = rw (← append_snoc (c ∷ P) r X) at h in
    let g' = rw (← e, ← append_snoc (c ∷ P) r Y) at g in
    λ i. e i ∷ same_rest s c (P ++ (r ∷ [])) X Y h' g' i

-- Two proper tables of one text are the same.
pub unique : (s : List ℕ) (R Q : List Record) → Proper s R → Proper s Q → R ≡ Q
unique s [] Q h g = absurd (omega (arith, h.first))
unique s (c ∷ X) [] h g = absurd (omega (arith, g.first))
unique s (c ∷ X) (d ∷ Y) h g =
    let start : c.start ≡ d.start = h.document_start ∙ sym g.document_start in
    let parent : c.parent ≡ d.parent = h.document_parent ∙ sym g.document_parent in
    let line : c.line ≡ d.line = h.lines 0 h.first ∙ ap (line_number s) start ∙ sym (g.lines 0 g.first) in
    let e : c ≡ d = has-only c d start parent line h.document g.document in
    λ i. e i ∷ same_rest s c [] X Y h (rw e g) i
