-- Any run of calls: each call keeps what was looked up, and what it adds is at one heading only, since the value was not seen before.
use mathlib.Core.Path.{◌≡◌, refl, sym, ap, ◌∙◌}
use mathlib.Core.Bool.{true≢false}
use mathlib.Core.List.{List, [], ◌∷◌, ◌++◌}
use Prim.Native.Nat.{ℕ, ◌≤◌}
use native.Mathlib.Omega.{arith}
use lib.ListN.{length, length-append}
use Rattle.text.specs.Limits.{text_limit}
use Rattle.sheet.specs.Order.{Order}
use Rattle.sheet.specs.Faults.{Good, judged}
use Rattle.sheet.specs.Sheet.{sheet}
use Rattle.sheet.specs.Promises.{Gives}
use Rattle.intake.specs.Required.{request_key, vin_key, request_of, vin_of}
use Rattle.intake.specs.Seen.{seen}
use Rattle.intake.specs.Book.{Book, text, extended}
use Rattle.intake.specs.Call.{Call, call}
use Rattle.intake.specs.Log.{run}
use Rattle.intake.specs.Promises.{OneHeading, LooksUpAsBefore, Accepted, AcceptedIn, here, later, AnyRun}
use Rattle.intake.proofs.Laws.Seen.{request-good, gives-inside, gives-seen}
use Rattle.intake.proofs.Laws.Sheets.{OneHeadingLine, sheet-alone, sheet-gives}
use Rattle.intake.proofs.Laws.Ended.{ended, ended-length}
use Rattle.intake.proofs.Laws.Grown.{grown-earlier, grown-old, grown-new, grown-where}
use Rattle.intake.proofs.Laws.Calls.{Took, more, call-took, call-cases, text-grown, grown-long, has-request, has-vin, good-only}

-- ---- from a text to a later one

record Step (s t : List ℕ) : Type 0 where
  pub longer : length s ≤ length t
  pub before : LooksUpAsBefore s t
  pub keeps : (v w : List ℕ) → OneHeading s v w → OneHeading t v w

step-refl : (s : List ℕ) → Step s s
unfolding LooksUpAsBefore
step-refl s = record { longer = omega arith; before = λ p h k. refl; keeps = λ v w i. i }

step_then : (s t u : List ℕ) → Step s t → Step t u → Step s u
unfolding LooksUpAsBefore
step_then s t u f g = record {
  longer = omega arith;
  before = λ p h k. g.before p (omega (arith, f.longer)) k ∙ f.before p h k;
  keeps = λ v w i. g.keeps v w (f.keeps v w i);
}

-- ---- an order that is taken

module _ (b : Book) (x : List ℕ) (o : Order) (j : judged x ≡ Good o) (t : Took b o) where
  abbrev s : List ℕ
  s = text b

  abbrev new : List ℕ
  new = ended s ++ sheet o

  long : length new ≤ text_limit
  long = grown-long b o t

  sheet-long : length (sheet o) ≤ text_limit
  sheet-long = omega (arith, long, length-append (ended s) (sheet o))

  pub took-short : length s ≤ text_limit
  took-short = omega (arith, long, length-append (ended s) (sheet o), ended-length s)

  pub took-alone : OneHeadingLine (sheet o)
  took-alone = sheet-alone x o j sheet-long

  request : Gives (sheet o) 0 request_key (request_of o)
  request = sheet-gives x o j sheet-long request_key (request_of o) (has-request o t.keys)

  car : Gives (sheet o) 0 vin_key (vin_of o)
  car = sheet-gives x o j sheet-long vin_key (vin_of o) (has-vin o t.keys)

  one-new : OneHeading new (request_of o) (vin_of o)
  one-new = record {
    place = length (ended s);
    request = grown-new s (sheet o) took-alone long request_key (request_of o) request;
    car = grown-new s (sheet o) took-alone long vin_key (vin_of o) car;
    only = λ p g. grown-where s (sheet o) took-alone long request_key (request_of o) p request-good g
        (λ w. absurd (true≢false (sym (gives-seen s (request_of o) took-short p w) ∙ t.fresh)))
        (λ h w. h);
  }

  one-old : (v w : List ℕ) → OneHeading s v w → OneHeading new v w
  one-old v w i =
      let inside = gives-inside s i.place request_key v took-short request-good i.request in
      record {
        place = i.place;
        request = grown-old s (sheet o) took-alone long request_key v i.place inside i.request;
        car = grown-old s (sheet o) took-alone long vin_key w i.place inside i.car;
        only = λ p g. grown-where s (sheet o) took-alone long request_key v p request-good g
            (λ y. i.only p y)
            (λ h y. let same : v ≡ request_of o = sym y.bytes ∙ request.bytes in
            absurd (true≢false (sym (gives-seen s v took-short i.place i.request) ∙ ap (seen s) same ∙ t.fresh)));
      }

  took-step : Step s (text (extended b (more b o)))
  unfolding LooksUpAsBefore
  took-step = rw (text-grown b o t) (record {
    longer = omega (arith, length-append (ended s) (sheet o), ended-length s);
    before = λ p h k. grown-earlier s (sheet o) took-alone long k p h;
    keeps = one-old;
  })

  pub took-new : OneHeading (text (extended b (more b o))) (request_of o) (vin_of o)
  took-new = rw (text-grown b o t) one-new

-- ---- a call, and a run

call_step : (b : Book) (x : List ℕ) → Step (text b) (text (call b x).after)
call_step b x = call-cases b x
    (λ n z i. rw i (step-refl (text b)))
    (λ o j t. rw (call-took b x o j t) (took-step b x o j t))

run_step : (b : Book) (xs : List (List ℕ)) → Step (text b) (text (run b xs))
unfolding run
run_step b [] = step-refl (text b)
run_step b (x ∷ xs) =
    let c = (call b x).after in
    step_then (text b) (text c) (text (run c xs)) (call_step b x) (run_step c xs)

accepted-new : (b : Book) (x : List ℕ) (o : Order) → Accepted b x o → OneHeading (text (call b x).after) (request_of o) (vin_of o)
accepted-new b x o a = call-cases b x
    (λ n z i. absurd (z (sym (ap (λ (c : Call). c.number) i) ∙ a.number)))
    (λ q j t. rw (good-only x o q a.good j, call-took b x q j t) (took-new b x q j t))

run-once : (b : Book) (xs : List (List ℕ)) (o : Order) → AcceptedIn b xs o → OneHeading (text (run b xs)) (request_of o) (vin_of o)
unfolding run
run-once b [] o x = elim x [ ]
run-once b (x ∷ xs) o (here a) = (run_step (call b x).after xs).keeps (request_of o) (vin_of o) (accepted-new b x o a)
run-once b (x ∷ xs) o (later a) = run-once (call b x).after xs o a

pub any-run : (b : Book) (xs : List (List ℕ)) → AnyRun b xs
any-run b xs = record { once = run-once b xs; earlier = (run_step b xs).before }
