-- `rules::property::property_at` meets its contract: the name stands between the colons of the body's first run, less one final plus.
-- Assumes nothing.
use mathlib.Core.Path.{◌≡◌, sym, ◌∙◌}
use mathlib.Core.Bool.{true, not}
use Prim.Native.Nat.{◌+◌, ◌≤◌, ◌-◌}
use native.Mathlib.Omega.{arith}
use lib.ListN.{length}
use Rattle.text.specs.Runs.{is_empty}
use Rattle.text.specs.Parts.{part, line_in}
use Rattle.rules.specs.Names.{between_colons}
use Rattle.rules.specs.LineTests.{property_name}
use Rattle.rules.proofs.Laws.LineOf.{line_of-order}
use Rattle.rules.proofs.Laws.LineTests.{first_run-order, first_run-part, property_name-order, property_name-plus, property_name-whole}
use Rattle.rules.proofs.Laws.LineTests.{is_node_property-none, is_node_property-empty, is_node_property-plus, is_node_property-yes}
use Rattle.rules.proofs.Laws.Findings.{property_of-no, property_of-part}
use Rattle.rules.proofs.property.property_at.Goals as goal
use Rattle.rules.proofs.property.property_at.Goals.{Else-not-is_between_colons, Joined-text-name-eq43, then-text-name-eq43, else-text-name-eq43, then-name-from-via-then-name-from, then-name-from-via-else-name-from+then-text-name-eq43-2}

pub word_end-end-requires : goal.word_end-end-requires
word_end-end-requires c = let o = line_of-order _ _ _ c.requires in (o.1, omega arith)

pub is_between_colons-requires : goal.is_between_colons-requires
is_between_colons-requires c = let o = first_run-order _ _ _ c.requires _ c.word_end-end.ensures in (o.0, omega arith)

pub returns-then-not-is_between_colons : goal.returns-then-not-is_between_colons
returns-then-not-is_between_colons c =
    sym (property_of-no _ _
    (is_node_property-none _ _ _ c.requires _ c.word_end-end.ensures
    (sym c.is_between_colons.ensures ∙ c.if-not-is_between_colons.true)))

-- the colons stand
colons : (c : Else-not-is_between_colons) → not (is_empty (between_colons (part c.args.text.now c.args.line.from c.word_end-end.result))) ≡ true
colons c = sym c.is_between_colons.ensures ∙ c.if-not-is_between_colons.false

order : (c : Else-not-is_between_colons) →
    (3 ≤ c.word_end-end.result - c.args.line.from) × (c.word_end-end.result ≤ length c.args.text.now)
order c = property_name-order _ _ _ c.requires _ c.word_end-end.ensures (colons c)

pub overflow_sub-name : goal.overflow_sub-name
overflow_sub-name c = omega (arith, order (goal.at.overflow_sub-name c).Else-not-is_between_colons)

pub overflow_sub-name-2 : goal.overflow_sub-name-2
overflow_sub-name-2 c = omega (arith, order (goal.at.overflow_sub-name-2 c).Else-not-is_between_colons)

pub bounds-text-name : goal.bounds-text-name
bounds-text-name c = omega (arith, order (goal.at.bounds-text-name c).Else-not-is_between_colons)

pub overflow_sub-name-then-text-name-eq43 : goal.overflow_sub-name-then-text-name-eq43
overflow_sub-name-then-text-name-eq43 c = omega (arith, order (goal.at.overflow_sub-name-then-text-name-eq43 c).Else-not-is_between_colons)

pub overflow_add-from : goal.overflow_add-from
overflow_add-from c = omega (arith, order (goal.at.overflow_add-from c).Else-not-is_between_colons)

-- the name ends at `name`
named : (c : Joined-text-name-eq43) →
    let s = c.args.text.now in
    let l = c.args.line in
    property_name (line_in s l.start c.args.to) ≡ part s (l.from + 1) c.if-text-name-eq43.name
named c =
    let pre = c.requires in
    let colons = sym c.is_between_colons.ensures ∙ c.if-not-is_between_colons.false in
    elim c.if-text-name-eq43.branch [
      | then-text-name-eq43 w ↦ rw w.name-is (property_name-plus _ _ _ pre _ c.word_end-end.ensures colons w.if-text-name-eq43.true)
      | else-text-name-eq43 w ↦ rw w.name-is (property_name-whole _ _ _ pre _ c.word_end-end.ensures colons w.if-text-name-eq43.false)
    ]

within : (c : Joined-text-name-eq43) →
    (c.if-text-name-eq43.name ≤ c.word_end-end.result) × (c.word_end-end.result ≤ length c.args.text.now)
within c =
    let o = property_name-order _ _ _ c.requires _ c.word_end-end.ensures (sym c.is_between_colons.ensures ∙ c.if-not-is_between_colons.false) in
    (elim c.if-text-name-eq43.branch [ then-text-name-eq43 w ↦ omega arith | else-text-name-eq43 w ↦ omega arith ], o.1)

pub bounds-text-name-else-name-from : goal.bounds-text-name-else-name-from
bounds-text-name-else-name-from c = omega (arith, within (goal.at.bounds-text-name-else-name-from c).Joined-text-name-eq43)

pub returns-then-name-from : goal.returns-then-name-from
returns-then-name-from c =
    let n = named (goal.at.returns-then-name-from c).Joined-text-name-eq43 in
    let o = within (goal.at.returns-then-name-from c).Joined-text-name-eq43 in
    sym (property_of-no _ _ (elim c.then-name-from.branch [
      | then-name-from-via-then-name-from w ↦ is_node_property-empty _ _ _ _ n w.if-name-from.true
      | then-name-from-via-else-name-from+then-text-name-eq43-2 w ↦ is_node_property-plus _ _ _ _ n w.if-name-from.false (omega arith) w.if-text-name-eq43-2.true
    ]))

pub returns : goal.returns
returns c =
    let n = named (goal.at.returns c).Joined-text-name-eq43 in
    let o = within (goal.at.returns c).Joined-text-name-eq43 in
    property_of-part _ _ _ _ _ c.requires (is_node_property-yes _ _ _ _ n c.if-name-from.false (omega arith) c.if-text-name-eq43-2.false) n
    (first_run-part _ _ _ c.requires _ c.word_end-end.ensures) (omega arith)
