-- `lookup::lookup::lookup` meets its contract: each refusal is that of the first stage that refuses.
-- Assumes nothing.
use mathlib.Core.Path.{◌≡◌, refl, sym, ap, ◌∙◌}
use mathlib.Core.List.{List}
use Prim.Native.Nat.{ℕ}
use native.Mathlib.Omega.{arith}
use Rattle.std.specs.declared.result.Result.{Result}
use Rattle.std.specs.declared.result.Result.TheVariants.{Ok, Err}
use Rattle.lookup.specs.declared.span.Span.{Span}
use Rattle.lookup.specs.declared.drawer.NoDrawer.{NoDrawer}
use Rattle.lookup.specs.declared.lookup.Refusal.{Refusal}
use Rattle.lookup.specs.Lookup.{Answer, with_drawer, lookup}
use Rattle.lookup.specs.Promises.{Tried, Tied}
use Rattle.lookup.proofs.Promises.{tied}
use Rattle.lookup.proofs.Laws.Drawers.{drawer_after-order}
use Rattle.lookup.proofs.Laws.Stages.{heading_at-to}
use Rattle.lookup.proofs.Laws.Lookup.{lookup-long, lookup-bad, lookup-no_heading, lookup-drawer, lookup-no_key, lookup-found}
use Rattle.lookup.proofs.lookup.lookup.Goals as goal

-- the answer of the definition is tied to the records
tied-answer : (s : List ℕ) (p : ℕ) (k : List ℕ) (r : Answer) → lookup s p k ≡ r → Tied s p k r
tied-answer s p k r h = rw h at (tied s p k)

-- the drawer stage: its refusal is the lookup's, and its lines are the drawer's
stage-refused : (d : Result Span NoDrawer) (e : Refusal) (rest : Span → Answer) → Err e ≡ with_drawer d (λ l. Ok l) → with_drawer d rest ≡ Err e
stage-refused (Err w) e rest h = sym h
stage-refused (Ok l) e rest h = let z : ◌≡◌ {A = ℕ} 0 1 = cc in absurd (omega arith)

abbrev span_or : Answer → Span → Span
span_or (Ok v) d = v
span_or (Err e) d = d

stage-lines : (d : Result Span NoDrawer) (l : Span) → Ok l ≡ with_drawer d (λ l. Ok l) → d ≡ Ok l
stage-lines (Err w) l h = let z : ◌≡◌ {A = ℕ} 0 1 = cc in absurd (omega arith)
stage-lines (Ok m) l h = ap (λ (x : Span). Ok x) (ap (λ (r : Answer). span_or r l) (sym h))

pub returns-then-text-gt-TEXT : goal.returns-then-text-gt-TEXT
returns-then-text-gt-TEXT c =
    let e = lookup-long c.args.text.now c.args.at c.args.key.now (omega arith) in
    record { value = sym e; tied = tied-answer _ _ _ _ e }

pub returns-then-is_bad_key : goal.returns-then-is_bad_key
returns-then-is_bad_key c =
    let e = lookup-bad c.args.text.now c.args.at c.args.key.now c.if-text-gt-TEXT.false (sym c.is_bad_key.ensures ∙ c.if-is_bad_key.true) in
    record { value = sym e; tied = tied-answer _ _ _ _ e }

pub returns-in_default : goal.returns-in_default
returns-in_default c =
    let t : Tried c.args.text.now c.args.key.now = record { text = c.if-text-gt-TEXT.false; key = sym c.is_bad_key.ensures ∙ c.if-is_bad_key.false } in
    let e = lookup-no_heading _ _ _ t (sym c.in_default.ensures) in
    record { value = sym e; tied = tied-answer _ _ _ _ e }

pub find_lines-drawer-requires : goal.find_lines-drawer-requires
find_lines-drawer-requires c = heading_at-to _ _ _ (sym c.in-Some.ensures)

pub returns-in_default-drawer : goal.returns-in_default-drawer
returns-in_default-drawer c =
    let t : Tried c.args.text.now c.args.key.now = record { text = c.if-text-gt-TEXT.false; key = sym c.is_bad_key.ensures ∙ c.if-is_bad_key.false } in
    let e = lookup-drawer _ _ _ t _ (sym c.in-Some.ensures) _ refl ∙ stage-refused _ _ _ c.in_default-drawer.ensures in
    record { value = c.in_default-drawer.is ∙ sym e; tied = rw c.in_default-drawer.is (tied-answer _ _ _ _ e) }

pub find_value-requires : goal.find_value-requires
find_value-requires c =
    let h = heading_at-to _ _ _ (sym c.in-Some.ensures) in
    let o = drawer_after-order _ _ h _ (stage-lines _ _ (sym c.in-Ok.is ∙ c.find_lines-drawer.ensures)) in
    (omega arith, omega arith, sym c.is_bad_key.ensures ∙ c.if-is_bad_key.false)

pub returns-in_default-find_value : goal.returns-in_default-find_value
returns-in_default-find_value c =
    let t : Tried c.args.text.now c.args.key.now = record { text = c.if-text-gt-TEXT.false; key = sym c.is_bad_key.ensures ∙ c.if-is_bad_key.false } in
    let d = stage-lines _ _ (sym c.in-Ok.is ∙ c.find_lines-drawer.ensures) in
    let e = lookup-no_key _ _ _ t _ (sym c.in-Some.ensures) _ d (sym c.in_default-find_value.ensures) in
    record { value = sym e; tied = tied-answer _ _ _ _ e }

pub returns : goal.returns
returns c =
    let t : Tried c.args.text.now c.args.key.now = record { text = c.if-text-gt-TEXT.false; key = sym c.is_bad_key.ensures ∙ c.if-is_bad_key.false } in
    let d = stage-lines _ _ (sym c.in-Ok.is ∙ c.find_lines-drawer.ensures) in
    let e = lookup-found _ _ _ t _ (sym c.in-Some.ensures) _ d _ (sym c.in-Some-find_value.ensures) in
    record { value = sym e; tied = tied-answer _ _ _ _ e }
