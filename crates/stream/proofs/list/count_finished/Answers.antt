-- `stream::list::count_finished` meets its contract.
use Rattle.std.proofs.Common.{◌≡◌, sym, ap, ◌∙◌, List, [], ◌∷◌, ℕ, Bor, Option, None, length, drop}
use Rattle.std.proofs.Math.ListN.{drop_of_length-le}
use Rattle.std.specs.Iterator.{Yields}
use Rattle.stream.specs.declared.heading.Heading.{Heading}
use Rattle.stream.specs.declared.list.Finished.{Finished}
use Rattle.stream.specs.Steps.{finished}
use Rattle.stream.specs.Spans.{NextHeading}
use Rattle.stream.proofs.list.count_finished.Goals as goal

abbrev gives : Finished → Option Heading → Finished → Type 0
gives s r t = (t.bytes ≡ s.bytes) × NextHeading s.state s.bytes.now s.at r t.state t.at

-- what comes from a state is what the bytes from there on finish
all-given : (hs : List Heading) (s t u : Finished) → Yields gives s hs t → gives t None u → hs ≡ finished s.state (drop s.at s.bytes.now)
unfolding finished
all-given [] s t u here last =
    let none = drop_of_length-le t.bytes.now last.1.ended in
    sym (ap (λ (a : Finished). finished a.state (drop a.at a.bytes.now)) here ∙ rw none at last.1.headings)
all-given (h ∷ hs) s t u (j, first, others) last =
    let rest = λ (x : Bor (List ℕ)). finished j.state (drop j.at x.now) in
    ap (λ (ks : List Heading). h ∷ ks) (all-given hs j t u others last ∙ ap rest first.0) ∙ sym first.1.headings

pub returns : goal.returns
returns c =
    let (hs, (u, (t, some, last)), count) = c.count.ensures.ran in
    count ∙ ap length (all-given hs _ t u some last)
