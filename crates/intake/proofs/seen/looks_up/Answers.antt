-- `intake::seen::looks_up` meets its contract: the part of a value lies in the text, and a refusal gives none.
use mathlib.Core.Path.{◌≡◌, refl, sym, ap, subst, ◌∙◌}
use mathlib.Core.Bool.{Bool, false, ◌&&◌}
use mathlib.Core.List.{List}
use Prim.Native.Nat.{ℕ}
use native.Mathlib.Omega.{arith}
use lib.Dec.{eqb}
use Rattle.text.specs.Number
use Rattle.text.specs.Runs.{word, equal}
use Rattle.std.specs.declared.result.Result.TheVariants.{Err}
use Rattle.lookup.specs.declared.lookup.Refusal.{Refusal}
use Rattle.lookup.specs.declared.lookup.Refusal.TheVariants.{TooLong, NoHeading, BlankFirst, NotClosed, NotProperty, NoDrawer, NoKey, BadKey}
use Rattle.lookup.specs.Lookup.{Answer, lookup, number, part_of, Inside}
use Rattle.lookup.proofs.Laws.Lookup.{lookup-inside}
use Rattle.intake.specs.Seen.{looks_up}
use Rattle.intake.proofs.seen.looks_up.Goals as goal

-- what an answer gives is the value, byte for byte
abbrev gives : Answer → List ℕ → List ℕ → Bool
gives r s v = eqb (number r) Number.done && equal (part_of r s) v

refused : (r : Refusal) (s v : List ℕ) → gives (Err r) s v ≡ false
refused TooLong s v = refl
refused NoHeading s v = refl
refused BlankFirst s v = refl
refused NotClosed s v = refl
refused (NotProperty f) s v = refl
refused NoDrawer s v = refl
refused NoKey s v = refl
refused BadKey s v = refl

-- a part that is found lies in the text
inside : (s k : List ℕ) (p : ℕ) (r : Answer) → r ≡ lookup s p k → Inside s r
inside s k p r h = subst (Inside s) (sym h) (lookup-inside s p k)

pub returns-in_default : goal.returns-in_default
unfolding looks_up word
returns-in_default c =
    let s = c.args.text.now in
    let v = c.args.value.now in
    sym (refused c.in_default.field-0 s v) ∙ ap (λ (r : Answer). gives r s v) c.in_default.ensures.value

pub slice_bounds-is_equal-count : goal.slice_bounds-is_equal-count
slice_bounds-is_equal-count c = (inside _ _ _ _ c.in-Ok.ensures.value).0

pub slice_bounds-is_equal-start : goal.slice_bounds-is_equal-start
slice_bounds-is_equal-start c = omega (arith, inside _ _ _ _ c.in-Ok.ensures.value)

pub slice_bounds-is_equal-end : goal.slice_bounds-is_equal-end
slice_bounds-is_equal-end c = omega (arith, inside _ _ _ _ c.in-Ok.ensures.value)

pub returns : goal.returns
unfolding looks_up word
returns c =
    c.is_equal.ensures ∙ ap (λ (r : Answer). gives r c.args.text.now c.args.value.now) c.in-Ok.ensures.value
