-- What is said of the bytes so far and of the rest is what is said of all.
use mathlib.Core.Path.{◌≡◌}
use mathlib.Core.Bool.{◌&&◌}
use Prim.Native.Nat.{◌-◌, ◌≤◌}
use lib.ListN.{length, drop}
use Rattle.std.specs.Slice.Iter.{windows_rest, windows_size}
use Rattle.rules.proofs.Spacing.{spaced}
use Rattle.rules.proofs.is_filled.Given as goal

abbrev pub invariant-loop-pair : goal.invariant-loop-pair
invariant-loop-pair l =
    let rest = windows_rest l.pair-iterator in
    record {
      size : windows_size l.pair-iterator ≡ 2;
      left : 1 ≤ length rest;
      within : length rest ≤ length l.s;
      end : rest ≡ drop (length l.s - length rest) l.s;
      so : spaced l.s ≡ l.formed && spaced rest;
    }
