-- `intake::call::append` meets its contract: nothing is written before 1 and 16 are tried, and then only after the bytes in use.
use mathlib.Core.Path.{◌≡◌, refl, ap, ◌∙◌}
use mathlib.Core.Bool.{Bool}
use mathlib.Core.List.{List}
use Prim.Native.Nat.{ℕ, ◌+◌, ◌-◌}
use lib.ListN.{length}
use borrow.Rule.Slice.PartMut.{mid_of, put_mid}
use Rattle.text.specs.Lines.{is_ended}
use Rattle.sheet.specs.Output.{laid}
use Rattle.sheet.proofs.Laws.Output.{laid-lent}
use Rattle.intake.specs.Book.{Book, text, added_to, added, extended}
use Rattle.intake.proofs.Laws.Turns.{answers, appended-long, appended-short, appended-done}
use Rattle.intake.proofs.call.append.Goals as goal

-- what is written, and the bytes in use after it
module _ (b : Book) (x : List ℕ) (e : Bool) (h : e ≡ is_ended (text b)) where
  written : added_to e x ≡ added (text b) x
  unfolding added
  written = ap (λ (a : Bool). added_to a x) h

  end : (n : ℕ) → n ≡ length (added_to e x) → b.used + n ≡ b.used + length (added (text b) x)
  end n i = ap (λ (m : ℕ). b.used + m) (i ∙ ap length written)

pub returns-then-end-gt-TEXT : goal.returns-then-end-gt-TEXT
unfolding text
returns-then-end-gt-TEXT c =
    let e = end _ _ _ c.is_ended-ended.ensures _ c.added_size.ensures.0 in
    answers _ refl refl (appended-long _ _ (rw e at c.if-end-gt-TEXT.true))

pub returns-then-book-end : goal.returns-then-book-end
unfolding text
returns-then-book-end c =
    let e = end _ _ _ c.is_ended-ended.ensures _ c.added_size.ensures.0 in
    answers _ refl refl (appended-short _ _ (rw e at c.if-end-gt-TEXT.false) (rw e at c.if-book-end.true))

pub returns : goal.returns
unfolding extended text
returns c =
    let book = c.args.book.now in
    let used = c.args.used in
    let e = end _ _ _ c.is_ended-ended.ensures _ c.added_size.ensures.0 in
    let k = length book - used in
    let left = ap (put_mid used k book) (c.put_added.ensures ∙ ap (laid (mid_of used k book) 0) (written _ _ _ c.is_ended-ended.ensures)) in
    answers _ e (left ∙ laid-lent book used _ c.requires.1)
    (appended-done _ _ (rw e at c.if-end-gt-TEXT.false) (rw e at c.if-book-end.false))
