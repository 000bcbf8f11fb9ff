-- A planning line is dates all through  [02 order 1].
use Rattle.std.specs.Prelude.{Bool, true, false, List, ℕ, zero, suc, length, drop}
use Rattle.std.specs.declared.option.Option as Options
use Rattle.std.specs.declared.option.Option.TheVariants.{None}
use Rattle.std.proofs.Math.Option.{Option, none, some}
use Rattle.text.specs.Runs.{word, is_empty, begins}
use Rattle.dates.specs.Reads.{Read, pick, ◌then◌, gap}
use Rattle.dates.specs.Stamps.{stamp, OpenStamps}
use Rattle.dates.specs.declared.planning.Keyword.{Keyword}
use Rattle.dates.specs.declared.planning.Keyword.TheVariants.{Closed, Deadline, Scheduled}
use Rattle.dates.specs.declared.planning.Planning.{Planning}
use Rattle.dates.specs.declared.stamp.Timestamp.{Timestamp}

unfoldable pub keyword : List ℕ → Read Keyword
keyword x =
    pick (begins x (word "closed:")) (some (Closed, drop 7 x))
    (pick (begins x (word "deadline:")) (some (Deadline, drop 9 x))
    (pick (begins x (word "scheduled:")) (some (Scheduled, drop 10 x))
    none))

-- `KEYWORD:`, one or more blank bytes, a timestamp of any kind
unfoldable pub planning_part : List ℕ → Read (Keyword × Options.Option Timestamp)
planning_part x = keyword x then λ k a. gap a then λ u b. stamp b then λ t c. some ((k, t), c)

-- a part's stamp becomes its keyword's, so the last one counts where a keyword repeats
abbrev pub put : Keyword → Options.Option Timestamp → Planning → Planning
put Closed t p = record { closed = t; deadline = p.deadline; scheduled = p.scheduled }
put Deadline t p = record { closed = p.closed; deadline = t; scheduled = p.scheduled }
put Scheduled t p = record { closed = p.closed; deadline = p.deadline; scheduled = t }

-- after a part: the end, or blank bytes and a part more
abbrev pub parts_from : Planning → (List ℕ → Option Planning) → List ℕ → Read (Unit {0}) → Option Planning
parts_from p f x none = pick (is_empty x) (some p) none
parts_from p f x (some r) = f r.1

abbrev pub part_from : (Planning → List ℕ → Option Planning) → Planning → Read (Keyword × Options.Option Timestamp) → Option Planning
part_from f p none = none
part_from f p (some r) = parts_from (put r.0.0 r.0.1 p) (f (put r.0.0 r.0.1 p)) r.1 (gap r.1)

-- one or more parts, up to n, and nothing else: what p becomes
unfoldable pub planning_parts : ℕ → Planning → List ℕ → Option Planning
planning_parts zero p x = none
planning_parts (suc n) p x = part_from (planning_parts n) p (planning_part x)

abbrev pub no_stamps : Planning
no_stamps = record { closed = None; deadline = None; scheduled = None }

-- a body has no more parts than bytes
unfoldable pub planning_in : List ℕ → Option Planning
planning_in x = planning_parts (length x) no_stamps x

abbrev pub is_some : Option Planning → Bool
is_some none = false
is_some (some p) = true

abbrev pub or_no_stamps : Option Planning → Planning
or_no_stamps none = no_stamps
or_no_stamps (some p) = p

-- whether a line's body is planning, and the stamps of its keywords
unfoldable pub planning_body : List ℕ → Bool
planning_body x = is_some (planning_in x)

unfoldable pub planning_stamps : List ℕ → Planning
planning_stamps x = or_no_stamps (planning_in x)

-- opens the definitions of this file and of those it stands on, for computed examples
unfoldable pub OpenPlanning : Type 1
unfolding OpenStamps keyword planning_part planning_parts planning_in planning_body planning_stamps
OpenPlanning = Type 0
