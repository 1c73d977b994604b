-- Of the first digits the number is n, and it is of so many digits.
use Rattle.std.proofs.Common.{◌≡◌, ◌^◌, ◌<◌, drop}
use Rattle.csm.specs.Fields.{numeral}
use Rattle.fields.proofs.words.numeral.Given as goal

abbrev pub invariant-loop-b : goal.invariant-loop-b
invariant-loop-b l = record {
  small : l.n < 16 ^ l.b-index;
  rest : numeral l.base 0 l.digits ≡ numeral l.base l.n (drop l.b-index l.digits);
}
