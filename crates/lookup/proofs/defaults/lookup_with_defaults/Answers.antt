-- `lookup::defaults::lookup_with_defaults` meets its contract: whether the defaults are asked says whose answer it is.
-- Assumes nothing.
use mathlib.Core.Path.{◌≡◌, sym, ap, ◌∙◌}
use mathlib.Core.List.{List}
use Prim.Native.Nat.{ℕ}
use Rattle.lookup.specs.declared.defaults.Sourced.{Sourced}
use Rattle.lookup.specs.declared.defaults.Sourced.TheVariants.{Order, Defaults}
use Rattle.lookup.specs.Defaults.{with_defaults}
use Rattle.lookup.specs.Promises.{SourcedFrom}
use Rattle.lookup.proofs.Promises.{sourced-from}
use Rattle.lookup.proofs.Laws.Defaults.{with_defaults-order, with_defaults-defaults}
use Rattle.lookup.proofs.defaults.lookup_with_defaults.Goals as goal

-- the answer of the definition is tied to the records of both texts
sourced-answer : (s : List ℕ) (p : ℕ) (d k : List ℕ) (r : Sourced) → with_defaults s p d k ≡ r → SourcedFrom s p d k r
sourced-answer s p d k r h = rw h at (sourced-from s p d k)

pub returns-then-asks_defaults : goal.returns-then-asks_defaults
returns-then-asks_defaults c =
    let asks = rw c.lookup-own.ensures.value at (sym c.asks_defaults.ensures ∙ c.if-asks_defaults.true) in
    let e = with_defaults-defaults _ _ c.args.defaults.now _ asks ∙ ap Defaults (sym c.of_defaults.ensures) in
    record { value = sym e; sourced_from = sourced-answer _ _ _ _ _ e }

pub returns : goal.returns
returns c =
    let stands = rw c.lookup-own.ensures.value at (sym c.asks_defaults.ensures ∙ c.if-asks_defaults.false) in
    let e = with_defaults-order _ _ c.args.defaults.now _ stands ∙ ap Order (sym c.lookup-own.ensures.value) in
    record { value = sym e; sourced_from = sourced-answer _ _ _ _ _ e }
