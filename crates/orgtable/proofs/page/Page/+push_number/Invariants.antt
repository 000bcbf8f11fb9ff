-- `orgtable::page::Page::push_number`: the recursion's measure is the number.
use Rattle.orgtable.proofs.page.Page.+push_number.Given as goal

abbrev pub decreases-push_number : goal.decreases-push_number
decreases-push_number l = l.n
