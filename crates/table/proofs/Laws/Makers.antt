-- Laws of the records that stand at a byte.
-- Assumes nothing.
use mathlib.Core.Path.{◌≡◌}
use mathlib.Core.List.{List}
use Prim.Native.Nat.{ℕ}
use native.Mathlib.Omega.{arith}
use lib.Dec.{T}
use borrow.Author.Tests.{eq-eqb, ne_eqb}
use Rattle.rules.specs.Kind
use Rattle.rules.specs.Kind.{holds_elements}
use Rattle.rules.proofs.Laws.Kind.{elements-no-property, elements-no-table, elements-no-list}
use Rattle.table.specs.Makers.{element_record, item_record, line_record, child_record}
use Rattle.table.specs.Sections.{row_detail}
use Rattle.table.specs.declared.record.Record.{Record}

module _ (s : List ℕ) (c : Record) (q p : ℕ) where
  pub child_record-property : c.kind ≡ Kind.property_drawer → child_record s c q p ≡ line_record Kind.node_property (λ l. 0) s c.to q p
  unfolding child_record
  child_record-property h = rw (eq-eqb c.kind Kind.property_drawer h, child_record)

  pub child_record-row : c.kind ≡ Kind.table → child_record s c q p ≡ line_record Kind.row row_detail s c.to q p
  unfolding child_record
  child_record-row h =
      rw (ne_eqb c.kind Kind.property_drawer (λ e. omega arith), eq-eqb c.kind Kind.table h, child_record)

  pub child_record-item : c.kind ≡ Kind.list → child_record s c q p ≡ item_record s c.to q p
  unfolding child_record
  child_record-item h =
      rw (ne_eqb c.kind Kind.property_drawer (λ e. omega arith), ne_eqb c.kind Kind.table (λ e. omega arith), eq-eqb c.kind Kind.list h, child_record)

  pub child_record-element : T (holds_elements c.kind) → child_record s c q p ≡ element_record s c.to q p
  unfolding child_record
  child_record-element h =
      rw (
        ne_eqb c.kind Kind.property_drawer (elements-no-property c.kind h),
        ne_eqb c.kind Kind.table (elements-no-table c.kind h),
        ne_eqb c.kind Kind.list (elements-no-list c.kind h),
        child_record,
      )
