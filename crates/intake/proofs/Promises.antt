-- What is promised of a call, of any run of calls and of a log, from what their answers are. From Calls, Book, Runs and Logs.
use mathlib.Core.Path.{◌≡◌, sym, ap, ◌∙◌}
use mathlib.Core.List.{List}
use Prim.Native.Nat.{ℕ}
use Rattle.text.specs.Number
use Rattle.sheet.specs.Order.{Order}
use Rattle.intake.specs.Book.{Book}
use Rattle.intake.specs.Call.{Call, call_of, call}
use Rattle.intake.specs.Log.{played}
use Rattle.intake.specs.Promises.{Accepted, Taken, Answers, AsBefore, Untouched, Settled, LogSettled}
use Rattle.intake.proofs.Laws.Book.{extended-earlier, extended-past, extended-size}
use Rattle.intake.proofs.Laws.Calls.{more, call-took, call-cases}
use Rattle.intake.proofs.Laws.Runs.{any-run}
use Rattle.intake.proofs.Laws.Logs.{played-given, played-cut, played-twice, answers-book}

-- an answer that leaves the book as it was
as_before : (b : Book) (r : Taken) (y : List ℕ) (n : ℕ) → Answers r y (call_of n b) → AsBefore b r y
as_before b r y n a = record { used = a.used; bytes = a.bytes }

module _ (b : Book) (x : List ℕ) (r : Taken) (y : List ℕ) (a : Answers r y (call b x)) where
  accepted : r.number ≡ Number.done → (o : Order) × Accepted b x o
  accepted h =
      let zero = sym a.number ∙ h in
      call-cases b x
      (λ n z i. absurd (z (sym (ap (λ (c : Call). c.number) i) ∙ zero)))
      (λ o j t. (o, record { good = j; number = zero }))

  refused : (r.number ≡ Number.done → ⊥) → AsBefore b r y
  refused h = call-cases b x
      (λ n z i. as_before b r y n (rw i at a))
      (λ o j t. absurd (h (rw (call-took b x o j t) at a.number)))

  untouched : Untouched b r y
  untouched = call-cases b x
      (λ n z i. record { earlier = rw (a.bytes, i); past = rw (a.bytes, i); size = rw (a.bytes, i) })
      (λ o j t. let c = call-took b x o j t in
      record {
        earlier = rw (a.bytes, c) (extended-earlier b (more b o) t.room);
        past = rw (a.used, a.bytes, c) (extended-past b (more b o) t.room);
        size = rw (a.bytes, c) (extended-size b (more b o) t.room);
      })

  pub settled : Settled b x r y
  settled = record { answers = a; accepted = accepted; refused = refused; untouched = untouched; runs = any-run b }

pub log-settled : (b : Book) (x : List ℕ) (r : Taken) (y : List ℕ) → Answers r y (played b x) → LogSettled b x r y
log-settled b x r y a =
    let left = answers-book a in
    record {
      answers = a;
      calls = λ es h. let c = rw h at (played-given b es) in (a.number ∙ rw c, left ∙ rw c);
      cut = λ h. let c = played-cut b x h in (a.number ∙ rw c, as_before b r y Number.cut_log (rw c at a));
      again = rw left (played-twice b x);
      runs = any-run b;
    }
