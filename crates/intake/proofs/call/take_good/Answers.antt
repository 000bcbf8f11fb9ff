-- `intake::call::take_good` meets its contract: each refusal in its turn.
use mathlib.Core.Path.{◌≡◌, refl, sym, ap, ◌∙◌}
use mathlib.Core.Bool.{false}
use mathlib.Core.List.{List}
use mathlib.Core.Logic.{⊎_elim}
use Prim.Native.Nat.{ℕ, ◌-◌}
use native.Mathlib.Omega.{arith}
use lib.ListN.{take, drop}
use Rattle.text.specs.Runs.{word, is_empty}
use Rattle.text.proofs.Laws.Parts.{part_slice}
use Rattle.std.specs.declared.option.Option.TheVariants.{Some}
use Rattle.sheet.specs.declared.buffer.Part.{Part}
use Rattle.sheet.specs.Order.{Order}
use Rattle.intake.specs.Required.{request_key, vin_key, value_of, request_of, lacks_key}
use Rattle.intake.specs.Seen.{seen}
use Rattle.intake.specs.Book.{Book, book_of, text}
use Rattle.intake.specs.Spans.{FilledAt}
use Rattle.intake.proofs.Laws.Required.{found_some, lacks-request, lacks-vin, lacks-none, over-buffer, over-limit, over_none}
use Rattle.intake.proofs.Laws.Turns.{answers, taken-lacking, taken-overused, taken-seen, taken-fresh}
use Rattle.intake.proofs.call.take_good.Goals as goal

module _ (x : List ℕ) (o : Order) where
  -- a value that is found is not empty
  filled : (k : List ℕ) (r : Part) → FilledAt x k o (Some r) → is_empty (value_of k o) ≡ false
  filled k r f = found_some x (value_of k o) r.from r.to f.0 f.1 f.2

  -- both keys are there
  keys : (r v : Part) → FilledAt x request_key o (Some r) → FilledAt x vin_key o (Some v) → lacks_key o ≡ false
  keys r v f g = lacks-none o (filled request_key r f) (filled vin_key v g)

  -- what is sought is the request
  sought : (b : Book) (r : Part) → FilledAt x request_key o (Some r) →
      seen (text b) (request_of o) ≡ seen (take b.used b.bytes) (take (r.to - r.from) (drop r.from x))
  unfolding text
  sought b r f = sym (ap (seen (take b.used b.bytes)) (part_slice x r.from r.to (omega (arith, f.0)) ∙ sym f.2))

pub returns-in_default : goal.returns-in_default
unfolding word
returns-in_default c = answers _ refl refl (taken-lacking _ _ (lacks-request _ c.in_default.ensures))

pub returns-in_default-find_filled : goal.returns-in_default-find_filled
unfolding word
returns-in_default-find_filled c =
    answers _ refl refl
    (taken-lacking _ _ (lacks-vin _ (filled _ _ _ _ c.in-Some.ensures) c.in_default-find_filled.ensures))

pub returns-then-book-used : goal.returns-then-book-used
unfolding word
returns-then-book-used c =
    let b = book_of c.args.book.now c.args.used in
    answers _ refl refl
    (taken-overused _ _ (keys _ _ _ _ c.in-Some.ensures c.in-Some-find_filled.ensures)
    (⊎_elim (over-buffer b) (λ w. over-limit b w.1) c.then-book-used.either))

pub returns-then-is_seen : goal.returns-then-is_seen
unfolding word
returns-then-is_seen c =
    let b = book_of c.args.book.now c.args.used in
    answers _ refl refl
    (taken-seen _ _ (keys _ _ _ _ c.in-Some.ensures c.in-Some-find_filled.ensures) (over_none b c.if-book-used.false c.if-used-gt-TEXT.false)
    (sought _ _ b _ c.in-Some.ensures ∙ sym c.is_seen.ensures ∙ c.if-is_seen.true))

pub returns : goal.returns
unfolding word
returns c =
    let b = book_of c.args.book.now c.args.used in
    rw (taken-fresh _ _ (keys _ _ _ _ c.in-Some.ensures c.in-Some-find_filled.ensures) (over_none b c.if-book-used.false c.if-used-gt-TEXT.false)
    (sought _ _ b _ c.in-Some.ensures ∙ sym c.is_seen.ensures ∙ c.if-is_seen.false)) c.append.ensures
