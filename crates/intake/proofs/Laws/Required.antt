-- The tests of 17 and 18, by what is found in the order and by the bytes in use.
use mathlib.Core.Path.{◌≡◌}
use mathlib.Core.Bool.{true, false, or-true}
use mathlib.Core.List.{List}
use Prim.Native.Nat.{ℕ, ◌≤◌, ◌<◌}
use native.Mathlib.Omega.{arith}
use lib.Dec.{ltb}
use lib.ListN.{length}
use borrow.Author.Tests.{lt-ltb, le-ltb}
use Rattle.text.specs.Limits.{text_limit}
use Rattle.text.specs.Parts.{part}
use Rattle.text.specs.Runs.{is_empty}
use Rattle.text.proofs.Laws.Parts.{part_length}
use Rattle.dates.proofs.Laws.Reads.{empty-no}
use Rattle.sheet.specs.Order.{Order}
use Rattle.intake.specs.Required.{request_of, vin_of, lacks_key}
use Rattle.intake.specs.Book.{Book, is_overused}

-- what is found is not empty
pub found_some : (x v : List ℕ) (a e : ℕ) → a < e → e ≤ length x → v ≡ part x a e → is_empty v ≡ false
found_some x v a e h i j = rw j (empty-no (part x a e) (omega (arith, part_length x a e i)))

module _ (o : Order) where
  pub lacks-request : is_empty (request_of o) ≡ true → lacks_key o ≡ true
  unfolding lacks_key
  lacks-request h = rw h

  module _ (h : is_empty (request_of o) ≡ false) where
    pub lacks-vin : is_empty (vin_of o) ≡ true → lacks_key o ≡ true
    unfolding lacks_key
    lacks-vin i = rw (h, i)

    pub lacks-none : is_empty (vin_of o) ≡ false → lacks_key o ≡ false
    unfolding lacks_key
    lacks-none i = rw (h, i)

module _ (b : Book) where
  pub over-buffer : length b.bytes < b.used → is_overused b ≡ true
  unfolding is_overused
  over-buffer h = rw (lt-ltb (length b.bytes) b.used h)

  pub over-limit : text_limit < b.used → is_overused b ≡ true
  unfolding is_overused
  over-limit h = rw (lt-ltb text_limit b.used h) (or-true (ltb (length b.bytes) b.used))

  pub over_none : b.used ≤ length b.bytes → b.used ≤ text_limit → is_overused b ≡ false
  unfolding is_overused
  over_none h i = rw (le-ltb (length b.bytes) b.used h, le-ltb text_limit b.used i)
