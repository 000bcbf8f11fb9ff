-- The cases of specs/Pinned are right, by computation.
use mathlib.Core.Path.{refl, ◌∙◌}
use mathlib.Core.List.{[], ◌∷◌}
use Rattle.text.specs.Cases.{Right}
use Rattle.lookup.specs.Pinned.{OpenLookupCases}
use Rattle.lookup.specs.PinnedDefaults.{OpenDefaultsCases}
use Rattle.sheet.specs.Answers.{OpenAnswers}
use Rattle.comaltzex.specs.Pinned.{◌answers◌from◌to◌and◌, ◌with◌key◌answers◌of◌from◌to◌and◌, ◌into◌answers◌count◌leaves◌}
use Rattle.comaltzex.specs.Pinned.{stamp_cases, plan_cases, OpenStampCases}

pub value-pinned : "* A\n:PROPERTIES:\n:VIN: 7\n:END:\n" answers 0 from 23 to 24 and 0
unfolding OpenLookupCases
value-pinned r h = (h.number, h.start, h.end, h.further)

pub blank-first-pinned : "* A\n\n:PROPERTIES:\n:VIN: 7\n:END:\n" answers 8 from 0 to 0 and 0
unfolding OpenLookupCases
blank-first-pinned r h = (h.number, h.start, h.end, h.further)

pub not-property-pinned : "* A\n:PROPERTIES:\n:VIN: 7\nhi\n:END:\n" answers 9 from 0 to 0 and 25
unfolding OpenLookupCases
not-property-pinned r h = (h.number, h.start, h.end, h.further)

pub own-pinned : "* A\n:PROPERTIES:\n:FUEL: 98\n:END:\n" with "" key "FUEL" answers 0 of 1 from 24 to 26 and 0
unfolding OpenDefaultsCases
own-pinned r h = (h.number, h.whose, h.start, h.end, h.further)

pub default-pinned : "* A\n:PROPERTIES:\n:END:\n" with "* D\n:PROPERTIES:\n:BOOST: 2\n:END:\n" key "BOOST" answers 0 of 2 from 25 to 26 and 0
unfolding OpenDefaultsCases
default-pinned r h = (h.number, h.whose, h.start, h.end, h.further)

pub default-refused-pinned : "* A\n:PROPERTIES:\n:END:\n" with "* D\n:PROPERTIES:\nhi\n:END:\n" key "BOOST" answers 9 of 2 from 0 to 0 and 17
unfolding OpenDefaultsCases
default-refused-pinned r h = (h.number, h.whose, h.start, h.end, h.further)

-- title `A`, and a pair `B` with the value `7`
pub sheet-pinned : (1 ∷ 0 ∷ 65 ∷ 1 ∷ 1 ∷ 66 ∷ 1 ∷ 0 ∷ 55 ∷ []) into "0123456789012345678901234567890"
    answers 0 count 29 leaves "* A\n:PROPERTIES:\n:B: 7\n:END:\n90"
unfolding OpenAnswers
sheet-pinned r t h = let a = h.settled.answers in (h.number ∙ a.number, h.count ∙ a.count, a.output)

pub no-room-pinned : (0 ∷ 0 ∷ 0 ∷ []) into "012345678901234567890" answers 16 count 22 leaves "012345678901234567890"
unfolding OpenAnswers
no-room-pinned r t h = let a = h.settled.answers in (h.number ∙ a.number, h.count ∙ a.count, a.output)

pub stamps-pinned : Right stamp_cases
unfolding OpenStampCases
stamps-pinned = refl

pub plans-pinned : Right plan_cases
unfolding OpenStampCases
plans-pinned = refl
