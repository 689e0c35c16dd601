-- `listing::end::list_stop` meets its contract: in each arm it is known whether the run stopped. Assumes nothing.
use Rattle.listing.proofs.end.list_stop.Goals as goal

pub returns-in-None : goal.returns-in-None
returns-in-None c =
    rw c.in-None.is

pub returns-in-Some : goal.returns-in-Some
returns-in-Some c =
    rw c.in-Some.is c.write_stopped.ensures
