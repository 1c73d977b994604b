-- Of k letters those were found that the value has as bits.
use Rattle.csm.specs.Fields.{error_letters}
use Rattle.fields.proofs.LetterLaws.{Sought}
use Rattle.fields.proofs.words.letters.Given as goal

abbrev pub invariant-loop-k : goal.invariant-loop-k
invariant-loop-k l = Sought error_letters l.w l.value l.k l.rest
