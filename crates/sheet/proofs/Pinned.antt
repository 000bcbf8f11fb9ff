-- The cases of specs/Pinned are right, by computation.
use mathlib.Core.Path.{refl}
use Rattle.text.specs.Cases.{Right}
use Rattle.sheet.specs.Pinned.Buffer.{low_first_cases, cut_cases, pair_cases, pairs_cases, few_cases, order_cases, OpenBufferCases}
use Rattle.sheet.specs.Pinned.Faults.{byte_cases, text_cases, name_cases, key_cases, value_cases, turn_cases, judged_cases, OpenFaultCases}
use Rattle.sheet.specs.Pinned.Sheet.{sheet_cases, laid_cases, ◌put◌at◌leaves◌to◌, OpenSheetCases}
use Rattle.sheet.specs.Pinned.Answers.{put_cases, long_cases, sheet_samples, OpenAnswerCases}
use Rattle.sheet.specs.Pinned.Table.{table_cases, lookup_cases, OpenTableCases}

pub buffer-pinned : Right low_first_cases × Right cut_cases × Right pair_cases × Right pairs_cases × Right few_cases × Right order_cases
unfolding OpenBufferCases
buffer-pinned = (refl, refl, refl, refl, refl, refl)

pub faults-pinned : Right byte_cases × Right text_cases × Right name_cases × Right key_cases × Right value_cases × Right turn_cases × Right judged_cases
unfolding OpenFaultCases
faults-pinned = (refl, refl, refl, refl, refl, refl, refl)

pub sheet-pinned : Right sheet_cases × Right laid_cases
unfolding OpenSheetCases
sheet-pinned = (refl, refl)

pub put-pinned : "abcdef" put "XYZ" at 1 leaves "aXYZef" to 4
unfolding OpenSheetCases
put-pinned d e h = (h.output, h.next)

pub answers-pinned : Right put_cases × Right sheet_samples
unfolding OpenAnswerCases
answers-pinned = (refl, refl)

pub long-pinned : Right long_cases
unfolding OpenAnswerCases
long-pinned = refl

pub table-pinned : Right table_cases × Right lookup_cases
unfolding OpenTableCases
table-pinned = (refl, refl)
