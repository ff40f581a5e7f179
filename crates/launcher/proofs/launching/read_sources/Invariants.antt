use Rattle.std.proofs.Common.{take}
use Rattle.launcher.specs.Launching.{AreListings, bytes_of}
use Rattle.launcher.proofs.launching.read_sources.Given as goal

-- the listings so far are those of the sources so far
abbrev pub invariant-loop-place : goal.invariant-loop-place
invariant-loop-place l = AreListings (bytes_of (take l.place l.sources)) l.listings.items
