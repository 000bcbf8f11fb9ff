-- `rules::first_rule::find_rule` meets its contract: the first byte of the body tells which rules can hold, and no rule holds at a blank line.
-- Assumes nothing.
use Rattle.std.proofs.Common.{◌≡◌, ℕ, ◌<◌, ◌⊎◌, true, List, [], get_or, refl, ap, ◌∙◌, inl, inr, arith, rules}
use Rattle.text.specs.Bytes.{lower, is_letter}
use Rattle.text.specs.Runs.{word}
use Rattle.text.specs.Parts.{lines_in}
use Rattle.text.specs.declared.line.LineSpan.{LineSpan}
use Rattle.rules.specs.declared.scope.Scope.{Scope}
use Rattle.rules.specs.declared.place.Place.{Place}
use Rattle.rules.specs.Elements.{rule, table, horizontal_rule, first_of, rules3to9, rules1to9}
use Rattle.rules.specs.Findings.{LineOf, rule_at, rule_on, is_in, wanting}
use Rattle.std.specs.declared.option.Option.TheVariants.{None}
use Rattle.rules.proofs.Laws.LineOf.{line_of-order}
use Rattle.rules.proofs.Laws.FirstByte.{mark-other, letter-other, first-none, first_some, planning-upper, planning-small, planning-s}
use Rattle.rules.proofs.Laws.FirstOf.{first_of-byte, first_of-none, first_of-only, first_of-letter}
use Rattle.rules.proofs.first_rule.find_rule.Goals as goal

pub returns-then-line-from : goal.returns-then-line-from
unfolding rule_at wanting is_in rules1to9 rules3to9 word
returns-then-line-from c =
    let args = c.args in
    let n = first-none _ _ _ c.requires.line c.if-line-from.true in
    rw (first_of-none (lines_in args.text.now args.line.start args.scope.end) args.scope.place 0 n refl)

pub bounds-text-from : goal.bounds-text-from
bounds-text-from c = let o = line_of-order _ _ _ c.requires.line in omega arith

pub returns-in-58 : goal.returns-in-58
unfolding lower
returns-in-58 c = rw (first_of-byte _ _ 58 (first_some _ _ _ c.requires.line c.if-line-from.false ∙ ap lower c.in-58.is)) c.try_colon.ensures

pub returns-in-35 : goal.returns-in-35
unfolding lower
returns-in-35 c = rw (first_of-byte _ _ 35 (first_some _ _ _ c.requires.line c.if-line-from.false ∙ ap lower c.in-35.is)) c.try_hash.ensures

pub returns-in-124 : goal.returns-in-124
unfolding lower wanting is_in rules1to9 rules3to9 word
returns-in-124 c =
    let first = first_some _ _ _ c.requires.line c.if-line-from.false ∙ ap lower c.in-124.is in
    rw (first_of-only _ _ 124 (rule (word "|") table) refl first) c.try_table.ensures

pub returns-in-45 : goal.returns-in-45
unfolding lower wanting is_in rules1to9 rules3to9 word
returns-in-45 c =
    let first = first_some _ _ _ c.requires.line c.if-line-from.false ∙ ap lower c.in-45.is in
    rw (first_of-only _ _ 45 (rule (word "-") horizontal_rule) refl first) c.try_horizontal_rule.ensures

-- b is a byte of no arm
abbrev Other : ℕ → Type 0
Other b =
    ((b ≡ 83) ⊎ (b ≡ 115) → ⊥)
    × ((b ≡ 67 → ⊥) × (b ≡ 68 → ⊥) × (b ≡ 99 → ⊥) × (b ≡ 100 → ⊥))
    × ((b ≡ 58 → ⊥) × (b ≡ 35 → ⊥) × (b ≡ 124 → ⊥) × (b ≡ 45 → ⊥))

-- no rule wants it
unwanted : (b : ℕ) → Other b → (pl : Place) → wanting (lower b) (rules1to9 pl) ≡ []
unfolding wanting is_in rules1to9 rules3to9 word is_letter
unwanted b o pl =
    let s = o.0 in
    let (c, d, c', d') = o.1 in
    let (colon, hash, bar, hyphen) = o.2 in
    let c58 = mark-other b 58 refl colon in
    let c35 = mark-other b 35 refl hash in
    rw (
      letter-other b 67 c c',
      letter-other b 68 d d',
      letter-other b 83 (λ e. s (inl e)) (λ e. s (inr e)),
      c58,
      c35,
      c58,
      mark-other b 124 refl bar,
      c35,
      c58,
      mark-other b 45 refl hyphen,
      c35,
      wanting,
    )

none : (s : List ℕ) (l : LineSpan) (sc : Scope) → LineOf s l sc.end → l.from < l.to → Other (get_or s l.from 0) → None ≡ rule_on (first_of (rules1to9 sc.place)) s l sc
unfolding rule_at
none s l sc h i o =
    rw (first_of-none (lines_in s l.start sc.end) sc.place _ (first_some s l sc.end h i) (unwanted (get_or s l.from 0) o sc.place))

pub returns-in_default : goal.returns-in_default
returns-in_default c = none _ c.args.line c.args.scope c.requires.line c.if-line-from.false (λ h. search rules, omega arith, omega arith)

pub returns-in_default-2 : goal.returns-in_default-2
returns-in_default-2 c = none _ c.args.line c.args.scope c.requires.line c.if-line-from.false (λ h. search rules, omega arith, omega arith)

pub returns-in_default-3 : goal.returns-in_default-3
returns-in_default-3 c = none _ c.args.line c.args.scope c.requires.line c.if-line-from.false (λ h. search rules, omega arith, omega arith)

pub returns-in-67-to-68 : goal.returns-in-67-to-68
returns-in-67-to-68 c =
    let b = get_or c.args.text.now c.args.line.from 0 in
    let n : is_in (lower b) (word "cds") ≡ true = grind (arith, planning-s b, planning-upper b, planning-small b) in
    rw (first_of-letter _ _ (ap (λ (a : ℕ). is_in a (word "cds")) (first_some _ _ _ c.requires.line c.if-line-from.false) ∙ n)) c.try_planning.ensures
