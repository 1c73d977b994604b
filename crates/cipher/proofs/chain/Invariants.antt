-- Chaining over what is left, from the output so far, gives the whole.
use mathlib.Core.Path.{◌≡◌}
use Rattle.std.specs.Slice.Iter.{chunks_rest, chunks_size}
use Rattle.dea.specs.Chain.{chained}
use Rattle.cipher.proofs.chain.Given as goal

abbrev pub invariant-loop-bytes : goal.invariant-loop-bytes
invariant-loop-bytes l =
    (chunks_size l.bytes-iterator ≡ 8) × (chained l.ks l.output (chunks_rest l.bytes-iterator) ≡ chained l.ks l.start l.text)
