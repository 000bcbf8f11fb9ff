-- Planning lines  [02 order 1]: which bodies are dates all through, and the stamps of their keywords.
use Rattle.std.specs.Prelude.{List, [], ◌∷◌, ◌++◌, ℕ}
use Prim.Native.String.{String}
use Rattle.text.specs.Runs.{word}
use Rattle.text.specs.Cases.{Case, case, ◌holds◌fails◌}
use Rattle.dates.specs.Planning.{keyword, planning_part, planning_body, planning_stamps, OpenPlanning}
use Rattle.dates.specs.Pinned.Stamps.{read_case, of_stamp, OpenStampCases}
use Rattle.dates.specs.declared.planning.Keyword.{Keyword}
use Rattle.dates.specs.declared.planning.Keyword.TheVariants.{Closed, Deadline, Scheduled}
use Rattle.dates.specs.declared.planning.Planning.{Planning}

-- ---- a keyword, and a part
unfoldable pub of_keyword : Keyword → List ℕ
of_keyword Closed = 1 ∷ []
of_keyword Deadline = 2 ∷ []
of_keyword Scheduled = 3 ∷ []

unfoldable pub keyword_case : String → List ℕ → Case
unfolding read_case
keyword_case w ns = read_case keyword of_keyword w ns

unfoldable pub part_case : String → List ℕ → Case
unfolding read_case
part_case w ns = read_case planning_part (λ r. of_keyword r.0 ++ of_stamp r.1) w ns

unfoldable pub keyword_cases : List Case
keyword_cases =
    keyword_case "CLOSED:" (1 ∷ 0 ∷ [])
    ∷ keyword_case "closed: x" (1 ∷ 2 ∷ [])
    ∷ keyword_case "DEADLINE:x" (2 ∷ 1 ∷ [])
    ∷ keyword_case "deadline:" (2 ∷ 0 ∷ [])
    ∷ keyword_case "SCHEDULED::" (3 ∷ 1 ∷ [])
    ∷ keyword_case "sChEdUlEd: " (3 ∷ 1 ∷ [])
    ∷ keyword_case "" []
    ∷ keyword_case "CLOSED" []
    ∷ keyword_case "CLOSED :" []
    ∷ keyword_case " CLOSED:" []
    ∷ keyword_case "CLOSE:" []
    ∷ keyword_case "CLOSEDX:" []
    ∷ keyword_case "DEADLINES:" []
    ∷ keyword_case "DEADLIN:" []
    ∷ keyword_case "DEADLINE" []
    ∷ keyword_case "SCHEDULE:" []
    ∷ keyword_case "SCHEDULED" []
    ∷ keyword_case "SCHEDULED-" []
    ∷ keyword_case "CLOCK:" []
    ∷ keyword_case ":CLOSED:" []
    ∷ keyword_case "x:" []
    ∷ part_case "CLOSED: [2026-11-16]" (1 ∷ 1 ∷ 2 ∷ 2026 ∷ 11 ∷ 16 ∷ 0 ∷ 0 ∷ 0 ∷ [])
    ∷ part_case "DEADLINE:\t<2026-11-16> x" (2 ∷ 1 ∷ 1 ∷ 2026 ∷ 11 ∷ 16 ∷ 0 ∷ 0 ∷ 2 ∷ [])
    ∷ part_case "SCHEDULED:\r <2026-11-16><2026-11-17>" (3 ∷ 1 ∷ 1 ∷ 2026 ∷ 11 ∷ 16 ∷ 0 ∷ 0 ∷ 12 ∷ [])
    ∷ part_case "CLOSED:[2026-11-16]" []
    ∷ part_case "CLOSED: " []
    ∷ part_case "CLOSED: x" []
    ∷ part_case "CLOSED: x[2026-11-16]" []
    ∷ part_case "CLOSED:\n[2026-11-16]" []
    ∷ part_case "[2026-11-16]" []
    ∷ part_case "" []
    ∷ []

-- ---- whether a body is planning: one part, its stamp, several parts

unfoldable pub one_cases : List Case
one_cases =
    planning_body holds
    ("SCHEDULED: <2026-11-16>" ∷ "DEADLINE: <2026-11-16>" ∷ "CLOSED: [2026-11-16]" ∷ "scheduled: <2026-11-16>" ∷ "deadline: <2026-11-16>"
    ∷ "closed: [2026-11-16]" ∷ "Scheduled: <2026-11-16>" ∷ "dEADLINE: <2026-11-16>" ∷ "cLoSeD: [2026-11-16]" ∷ "CLOSED:\t[2026-11-16]"
    ∷ "CLOSED:\r[2026-11-16]" ∷ "CLOSED:  [2026-11-16]" ∷ "CLOSED: \t\r [2026-11-16]" ∷ [])
    fails
    ("" ∷ "SCHEDULED: ring him back" ∷ "SCHEDULED:" ∷ "SCHEDULED: " ∷ "SCHEDULED" ∷ "SCHEDULED <2026-11-16>" ∷ "SCHEDULED : <2026-11-16>"
    ∷ "SCHEDULED:<2026-11-16>" ∷ "SCHEDULED:\n<2026-11-16>" ∷ "SCHEDULED:\u{a0}<2026-11-16>" ∷ "SCHEDULED:: <2026-11-16>"
    ∷ ":SCHEDULED: <2026-11-16>" ∷ "SCHEDULE: <2026-11-16>" ∷ "SCHEDULEDS: <2026-11-16>" ∷ "XSCHEDULED: <2026-11-16>" ∷ "DEADLINES: <2026-11-16>"
    ∷ "DEADLIN: <2026-11-16>" ∷ "CLOSEDX: [2026-11-16]" ∷ "CLOSE: [2026-11-16]" ∷ "CLOCK: [2026-11-16]" ∷ "TODO: <2026-11-16>" ∷ "<2026-11-16>"
    ∷ " SCHEDULED: <2026-11-16>" ∷ "\rSCHEDULED: <2026-11-16>" ∷ "x SCHEDULED: <2026-11-16>" ∷ "SCHEDULED: x <2026-11-16>"
    ∷ "SCHEDULED: <2026-11-16> " ∷ "SCHEDULED: <2026-11-16>\t" ∷ "SCHEDULED: <2026-11-16>\r" ∷ "SCHEDULED: <2026-11-16>\n"
    ∷ "SCHEDULED: <2026-11-16> x" ∷ "SCHEDULED: <2026-11-16>x" ∷ "SCHEDULED: <2026-11-16>." ∷ "SCHEDULED: <2026-11-16> <2026-11-17>" ∷ [])

unfoldable pub stamp_cases : List Case
stamp_cases =
    planning_body holds
    ("CLOSED: <2026-11-16>" ∷ "SCHEDULED: [2026-11-16]" ∷ "SCHEDULED: <2026-11-16 9:30-10:00>" ∷ "SCHEDULED: <2026-11-16>--<2026-11-17>"
    ∷ "CLOSED: [2026-11-16]--[2026-11-17]" ∷ "SCHEDULED: <2026-11-16 Mon 9:30 +1w -2d>" ∷ "SCHEDULED: <2026-02-30>"
    ∷ "SCHEDULED: <0000-99-00 99:77>" ∷ [])
    fails
    ("SCHEDULED: 2026-11-16" ∷ "SCHEDULED: <2026-11-16]" ∷ "SCHEDULED: <2026-11-16" ∷ "SCHEDULED: <2026-11-16 >"
    ∷ "SCHEDULED: <2026-11-16 ++1234567890d>" ∷ "SCHEDULED: <%%(x)>" ∷ "SCHEDULED: <2026-11-16>--[2026-11-17]"
    ∷ "SCHEDULED: <2026-11-16>--<2026-11-17>--<2026-11-18>" ∷ "SCHEDULED: <2026-11-16>--<2026-11-17 9:30-10:00>"
    ∷ "SCHEDULED: <2026-11-16 9:30-10:00>--<2026-11-17>" ∷ "SCHEDULED: <2026-11-16>--" ∷ [])

unfoldable pub several_cases : List Case
several_cases =
    planning_body holds
    ("CLOSED: [2026-11-16] DEADLINE: <2026-11-16>" ∷ "DEADLINE: <2026-11-16> CLOSED: [2026-11-16]"
    ∷ "CLOSED: [2026-11-16]\tDEADLINE: <2026-11-16>\r \tSCHEDULED: <2026-11-17>"
    ∷ "scheduled: <2026-11-16> Deadline: <2026-11-17> CLOSED: [2026-11-16]" ∷ "SCHEDULED: <2026-11-16> SCHEDULED: <2026-11-17>"
    ∷ "CLOSED: [2026-11-16] CLOSED: [2026-11-16] CLOSED: [2026-11-17] CLOSED: [2026-11-18]"
    ∷ "SCHEDULED: <2026-11-16>--<2026-11-17> DEADLINE: <2026-11-18>" ∷ [])
    fails
    ("CLOSED: [2026-11-16]DEADLINE: <2026-11-16>" ∷ "CLOSED: [2026-11-16]\nDEADLINE: <2026-11-16>" ∷ "CLOSED: [2026-11-16], DEADLINE: <2026-11-16>"
    ∷ "CLOSED: [2026-11-16] and DEADLINE: <2026-11-16>" ∷ "CLOSED: [2026-11-16] DEADLINE:" ∷ "CLOSED: [2026-11-16] DEADLINE: "
    ∷ "CLOSED: [2026-11-16] DEADLINE:<2026-11-16>" ∷ "CLOSED: [2026-11-16] DEADLINE: x" ∷ "CLOSED: [2026-11-16] DEADLINE <2026-11-16>"
    ∷ "CLOSED: [2026-11-16] DEADLIN: <2026-11-16>" ∷ "CLOSED: DEADLINE: <2026-11-16>" ∷ "CLOSED: [2026-11-16] <2026-11-16>"
    ∷ "CLOSED: [2026-11-16] CLOSED:" ∷ "CLOSED: [2026-11-16] DEADLINE: <2026-11-16> x" ∷ "CLOSED: [2026-11-16] DEADLINE: <2026-11-16> "
    ∷ "CLOSED: [2026-11-16] DEADLINE: <2026-11-16>SCHEDULED: <2026-11-17>" ∷ "CLOSED: [2026-11-16] DEADLINE: <2026-11-16> SCHEDULED:"
    ∷ "CLOSED: [2026-11-16] DEADLINE: <2026-11-16> SCHEDULED: x" ∷ "x: [2026-11-16] DEADLINE: <2026-11-16>"
    ∷ "x CLOSED: [2026-11-16] DEADLINE: <2026-11-16>" ∷ [])

-- ---- the stamps closed, deadline and scheduled, 0 for none; where a keyword repeats the last one counts

unfoldable pub of_planning : Planning → List ℕ
of_planning p = of_stamp p.closed ++ of_stamp p.deadline ++ of_stamp p.scheduled

unfoldable pub planning_case : String → List ℕ → Case
unfolding of_planning
planning_case w ns = case w (of_planning (planning_stamps (word w))) ns

unfoldable pub planning_cases : List Case
planning_cases =
    planning_case "" (0 ∷ 0 ∷ 0 ∷ [])
    ∷ planning_case "CLOSED: [2026-11-16]" (1 ∷ 2 ∷ 2026 ∷ 11 ∷ 16 ∷ 0 ∷ 0 ∷ 0 ∷ 0 ∷ [])
    ∷ planning_case "DEADLINE: <2026-11-16>" (0 ∷ 1 ∷ 1 ∷ 2026 ∷ 11 ∷ 16 ∷ 0 ∷ 0 ∷ 0 ∷ [])
    ∷ planning_case "SCHEDULED: <2026-11-16>" (0 ∷ 0 ∷ 1 ∷ 1 ∷ 2026 ∷ 11 ∷ 16 ∷ 0 ∷ 0 ∷ [])
    ∷ planning_case "CLOSED: <2026-11-16>" (1 ∷ 1 ∷ 2026 ∷ 11 ∷ 16 ∷ 0 ∷ 0 ∷ 0 ∷ 0 ∷ [])
    ∷ planning_case "scheduled: [2026-11-16 Mon 9:30-10:45]" (0 ∷ 0 ∷ 2 ∷ 2 ∷ 2026 ∷ 11 ∷ 16 ∷ 1 ∷ 9 ∷ 30 ∷ 10 ∷ 45 ∷ 0 ∷ [])
    ∷ planning_case "Deadline: <2026-11-16 +1d>--<2026-11-17 9:30 -2w>"
    (0 ∷ 3 ∷ 1 ∷ 2026 ∷ 11 ∷ 16 ∷ 0 ∷ 1 ∷ 1 ∷ 1 ∷ 100 ∷ 0 ∷ 2026 ∷ 11 ∷ 17 ∷ 1 ∷ 9 ∷ 30 ∷ 2 ∷ 1 ∷ 2 ∷ 119 ∷ 0 ∷ [])
    ∷ planning_case "CLOSED: [2026-11-16] DEADLINE: <2026-11-17>" (1 ∷ 2 ∷ 2026 ∷ 11 ∷ 16 ∷ 0 ∷ 0 ∷ 1 ∷ 1 ∷ 2026 ∷ 11 ∷ 17 ∷ 0 ∷ 0 ∷ 0 ∷ [])
    ∷ planning_case "SCHEDULED: <2026-11-17> CLOSED: [2026-11-16]" (1 ∷ 2 ∷ 2026 ∷ 11 ∷ 16 ∷ 0 ∷ 0 ∷ 0 ∷ 1 ∷ 1 ∷ 2026 ∷ 11 ∷ 17 ∷ 0 ∷ 0 ∷ [])
    ∷ planning_case "CLOSED: [2026-11-16] DEADLINE: <2026-11-17> SCHEDULED: <2026-11-18>"
    (1 ∷ 2 ∷ 2026 ∷ 11 ∷ 16 ∷ 0 ∷ 0 ∷ 1 ∷ 1 ∷ 2026 ∷ 11 ∷ 17 ∷ 0 ∷ 0 ∷ 1 ∷ 1 ∷ 2026 ∷ 11 ∷ 18 ∷ 0 ∷ 0 ∷ [])
    ∷ planning_case "SCHEDULED: <2026-11-18> DEADLINE: <2026-11-17> CLOSED: [2026-11-16]"
    (1 ∷ 2 ∷ 2026 ∷ 11 ∷ 16 ∷ 0 ∷ 0 ∷ 1 ∷ 1 ∷ 2026 ∷ 11 ∷ 17 ∷ 0 ∷ 0 ∷ 1 ∷ 1 ∷ 2026 ∷ 11 ∷ 18 ∷ 0 ∷ 0 ∷ [])
    ∷ planning_case "SCHEDULED: <2026-11-16> SCHEDULED: <2026-11-17>" (0 ∷ 0 ∷ 1 ∷ 1 ∷ 2026 ∷ 11 ∷ 17 ∷ 0 ∷ 0 ∷ [])
    ∷ planning_case "SCHEDULED: <2026-11-17> SCHEDULED: <2026-11-16>" (0 ∷ 0 ∷ 1 ∷ 1 ∷ 2026 ∷ 11 ∷ 16 ∷ 0 ∷ 0 ∷ [])
    ∷ planning_case "DEADLINE: <2026-11-16> DEADLINE: [2026-11-17 9:30]" (0 ∷ 1 ∷ 2 ∷ 2026 ∷ 11 ∷ 17 ∷ 1 ∷ 9 ∷ 30 ∷ 0 ∷ 0 ∷ [])
    ∷ planning_case "CLOSED: [2026-11-16] CLOSED: [2026-11-17] CLOSED: [2026-11-18]" (1 ∷ 2 ∷ 2026 ∷ 11 ∷ 18 ∷ 0 ∷ 0 ∷ 0 ∷ 0 ∷ [])
    ∷ planning_case "SCHEDULED: <2026-11-16> CLOSED: [2026-11-16] SCHEDULED: <2026-11-17>"
    (1 ∷ 2 ∷ 2026 ∷ 11 ∷ 16 ∷ 0 ∷ 0 ∷ 0 ∷ 1 ∷ 1 ∷ 2026 ∷ 11 ∷ 17 ∷ 0 ∷ 0 ∷ [])
    ∷ planning_case "CLOSED: [2026-11-16] DEADLINE: <2026-11-16> CLOSED: [2026-11-17] DEADLINE: <2026-11-17>"
    (1 ∷ 2 ∷ 2026 ∷ 11 ∷ 17 ∷ 0 ∷ 0 ∷ 1 ∷ 1 ∷ 2026 ∷ 11 ∷ 17 ∷ 0 ∷ 0 ∷ 0 ∷ [])
    ∷ planning_case "CLOSED: [2026-11-16] x" (0 ∷ 0 ∷ 0 ∷ [])
    ∷ planning_case "CLOSED: [2026-11-16] DEADLINE: x" (0 ∷ 0 ∷ 0 ∷ [])
    ∷ planning_case "CLOSED: [2026-11-16] " (0 ∷ 0 ∷ 0 ∷ [])
    ∷ planning_case "x CLOSED: [2026-11-16]" (0 ∷ 0 ∷ 0 ∷ [])
    ∷ planning_case "SCHEDULED: ring him back" (0 ∷ 0 ∷ 0 ∷ [])
    ∷ []

-- opens these cases and what they are cases of
unfoldable pub OpenPlanningCases : Type 1
unfolding OpenStampCases OpenPlanning of_keyword keyword_case part_case planning_case keyword_cases one_cases stamp_cases several_cases planning_cases
OpenPlanningCases = Type 0
