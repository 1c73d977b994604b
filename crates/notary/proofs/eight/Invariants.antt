-- After i characters x is their number, as far as 64 bits hold it.
use Rattle.std.proofs.Common.{◌≡◌, ◌%◌, ◌^◌}
use Rattle.octets.specs.Number.{number}
use Rattle.keying.specs.Working.{characters}
use Rattle.notary.proofs.eight.Given as goal

abbrev pub invariant-loop-i : goal.invariant-loop-i
invariant-loop-i l = l.x ≡ number (characters l.i l.at l.identity) % 2 ^ 64
