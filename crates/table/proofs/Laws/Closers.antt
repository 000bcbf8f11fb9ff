-- Laws of the end up to which closers are sought.
-- Assumes nothing.
use mathlib.Core.Path.{◌≡◌}
use mathlib.Core.Bool.{true, false}
use mathlib.Core.List.{List}
use Prim.Native.Nat.{ℕ, zero, suc, ◌<◌}
use native.Mathlib.Omega.{arith}
use Rattle.rules.specs.Kind.{is_bound}
use Rattle.table.specs.declared.record.Record.{Record}
use Rattle.table.specs.Records.{at}
use Rattle.table.specs.Closers.{end_in, end_from, closers_end}

module _ (h : ℕ) (r : Record) where
  pub end_in-bound : is_bound r.kind ≡ true → end_in h r ≡ r.to
  unfolding end_in
  end_in-bound i = rw (i, end_in)

  pub end_in-same : is_bound r.kind ≡ false → end_in h r ≡ h
  unfolding end_in
  end_in-same i = rw (i, end_in)

-- however many steps up from record q suffice, closers in it are sought up to h
abbrev pub Ends : List Record → ℕ → ℕ → Type 0
Ends R q h = (n : ℕ) → q < n → end_from n R q ≡ h

pub ends-closers : (R : List Record) (q h : ℕ) → Ends R q h → closers_end R q ≡ h
unfolding closers_end
ends-closers R q h f = f (suc q) (omega arith)

-- in record k, by what holds it
pub ends-inner : (R : List Record) (k h : ℕ) (r : Record) → at R k ≡ r → r.parent < k → Ends R r.parent h → Ends R k (end_in h r)
unfolding end_from
ends-inner R k h r e l f zero b = absurd (omega arith)
ends-inner R k h r e l f (suc n) b = rw (e, f n (omega arith))

-- in a section, drawer or greater block
pub ends-bound : (R : List Record) (k : ℕ) (r : Record) → at R k ≡ r → is_bound r.kind ≡ true → Ends R k r.to
unfolding end_from
ends-bound R k r e i zero b = absurd (omega arith)
ends-bound R k r e i (suc n) b = rw (e, end_in-bound (end_from n R r.parent) r i)
