-- A book's text in use, and a book that is written into after it: its text is the text in use and what is written, and no other byte changes.
use mathlib.Core.Path.{◌≡◌, refl, sym, ap, ◌∙◌}
use mathlib.Core.Bool.{true}
use mathlib.Core.List.{List, ◌++◌}
use Prim.Native.Nat.{ℕ, ◌+◌, ◌-◌, ◌≤◌, ◌<◌}
use native.Mathlib.Omega.{arith}
use lib.ListN.{length, take, drop, get_or}
use lib.Seq.{length-take-le, take_at, get_or-take}
use Rattle.text.specs.Bytes.{is_newline}
use Rattle.text.specs.Lines.{is_ended}
use Rattle.text.proofs.Laws.Joined.{ended-byte}
use Rattle.sheet.specs.Output.{laid}
use Rattle.sheet.proofs.Laws.Output.{laid-take, laid-drop, laid-length}
use Rattle.intake.specs.Book.{Book, text, extended}

pub text-length : (b : Book) → b.used ≤ length b.bytes → length (text b) ≡ b.used
unfolding text
text-length b h = length-take-le b.used b.bytes h

module _ (b : Book) (x : List ℕ) where
  pub extended-used : (extended b x).used ≡ b.used + length x
  unfolding extended
  extended-used = refl

  module _ (h : b.used + length x ≤ length b.bytes) where
    pub text-extended : text (extended b x) ≡ text b ++ x
    unfolding text extended
    text-extended = laid-take b.bytes b.used x h

    pub extended-earlier : take b.used (extended b x).bytes ≡ take b.used b.bytes
    unfolding extended laid
    extended-earlier = take_at (take b.used b.bytes) _ b.used (length-take-le b.used b.bytes (omega arith))

    pub extended-past : drop (extended b x).used (extended b x).bytes ≡ drop (extended b x).used b.bytes
    unfolding extended
    extended-past = laid-drop b.bytes b.used x h

    pub extended-size : length (extended b x).bytes ≡ length b.bytes
    unfolding extended
    extended-size = laid-length b.bytes b.used x h

-- ---- whether the last line has its byte 10

pub ended-none : (s : List ℕ) (n : ℕ) → n ≡ 0 → is_ended (take n s) ≡ true
unfolding is_ended
ended-none s n h = rw h

pub ended-last : (s : List ℕ) (n : ℕ) → 0 < n → n ≤ length s → is_newline (get_or s (n - 1) 0) ≡ is_ended (take n s)
ended-last s n h i =
    ap is_newline (sym (get_or-take n s (n - 1) 0 (omega arith))) ∙ ended-byte (take n s) (n - 1) (omega (arith, length-take-le n s i))
