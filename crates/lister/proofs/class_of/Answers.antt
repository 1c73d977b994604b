-- Each arm names its class, and an option the class of its rest.
use Rattle.std.proofs.Common.{◌≡◌, sym, ap, ◌∙◌, Option, Some, None, option_map}
use Rattle.octets.specs.Text.{Text}
use Rattle.csm.specs.Message.{read}
use Rattle.reader.specs.Seen.{seen}
use Rattle.reader.specs.declared.Message.{Message}
use Rattle.lister.specs.Listing.{listed_class}
use Rattle.lister.proofs.Listed.{message_class, listed}
use Rattle.lister.proofs.class_of.Goals as goal

-- what the reader shows is what is listed
told : (s : Text) (r : Option Message) → r ≡ seen (read s) → (o : Option Message) → r ≡ o → option_map message_class o ≡ listed_class (read s)
told s r e o q = ap (option_map message_class) (sym q ∙ e) ∙ listed (read s)

pub returns-in_err-read : goal.returns-in_err-read
returns-in_err-read c = c.from_residual.ensures ∙ told c.args.line.now _ c.read.ensures None c.in_err-read.was

pub returns-in-Rsi : goal.returns-in-Rsi
returns-in-Rsi c = told c.args.line.now _ c.read.ensures _ (c.in_ok-read.was ∙ ap Some c.in-Rsi.is)

pub returns-in-Ksm : goal.returns-in-Ksm
returns-in-Ksm c = told c.args.line.now _ c.read.ensures _ (c.in_ok-read.was ∙ ap Some c.in-Ksm.is)

pub returns-in-Rsm : goal.returns-in-Rsm
returns-in-Rsm c = told c.args.line.now _ c.read.ensures _ (c.in_ok-read.was ∙ ap Some c.in-Rsm.is)

pub returns-in-Esm : goal.returns-in-Esm
returns-in-Esm c = told c.args.line.now _ c.read.ensures _ (c.in_ok-read.was ∙ ap Some c.in-Esm.is)

pub returns-in-Option : goal.returns-in-Option
returns-in-Option c = told c.args.line.now _ c.read.ensures _ (c.in_ok-read.was ∙ ap Some c.in-Option.is)
