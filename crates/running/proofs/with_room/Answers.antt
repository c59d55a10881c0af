-- The room has place for the film's sums, so the work on them is the work on the job.
use native.Mathlib.Omega.{arith}
use Rattle.running.proofs.with_room.Goals as goal

pub room-room-requires : goal.room-room-requires
room-room-requires g c = omega (arith, c.requires.room)

pub whole_as_slice-film : goal.whole_as_slice-film
whole_as_slice-film g c = omega (arith, c.requires.room)
