-- What is promised of the definitions holds: the reading of a text is its one proper table, and closers in it are sought far enough. From Exists
-- and Unique.
-- Assumes nothing.
use Rattle.table.specs.Promises.{OneReading, ExactlyReading, ClosersSought}
use Rattle.table.specs.Reading.{reading}
use Rattle.table.proofs.Proper.Exists.{reading-proper, reading-sought}
use Rattle.table.proofs.Proper.Unique.{unique}

pub one-reading : OneReading
one-reading = record { proper = reading-proper; only = λ s R h. unique s R (reading s) h (reading-proper s) }

pub proper-iff : ExactlyReading
proper-iff s R = (one-reading.only s R, λ e. rw e (one-reading.proper s))

pub closers-sought : ClosersSought
closers-sought = record { reading = reading-sought; proper = λ s R h. rw (one-reading.only s R h) (reading-sought s) }
