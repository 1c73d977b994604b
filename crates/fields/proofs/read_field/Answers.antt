-- What the closure made of the contents.
use Rattle.std.proofs.Common.{refl}
use Rattle.fields.proofs.PieceLaws.{read_made}
use Rattle.fields.proofs.read_field.Goals as goal

pub returns-in_default-read : goal.returns-in_default-read
returns-in_default-read g c = read_made _ _ _ _ _ c.in-Some.piece c.in-Some.ensures _ c.in_default-read.ensures _ refl

pub returns : goal.returns
returns g c = read_made _ _ _ _ _ c.in-Some.piece c.in-Some.ensures _ c.in-Some-read.ensures _ refl
