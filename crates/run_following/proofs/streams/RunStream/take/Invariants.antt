use Rattle.std.proofs.Common.{◌≡◌, ◌++◌, [], List, ℕ, length}
use Rattle.run_following.specs.Internal.Streams.{StandsAt}
use Rattle.run_following.proofs.streams.RunStream.take.Given as goal

abbrev pub invariant-lines : goal.invariant-lines
invariant-lines l = record {
  stands : (bytes : List ℕ) → StandsAt l.fn.self bytes [] → StandsAt l.self (bytes ++ l.fn.chunk) l.rest;
  fast : l.self.is_fast ≡ l.fn.self.is_fast;
  most : l.self.follower.noted.most ≡ l.fn.self.follower.noted.most;
}

abbrev pub decreases-lines : goal.decreases-lines
decreases-lines l = length l.rest
