-- `writer::put_keys` meets its contract: one KD, and another where there are two. Assumes nothing.
use mathlib.Core.List.{append-nil}
use Rattle.octets.proofs.Writing.{wrote_rest}
use Rattle.csm.specs.Fields.{field, KD}
use Rattle.writer.specs.Contents.{kd_of, keys_text}
use Rattle.writer.proofs.put_keys.Goals as goal

pub returns-in-None : goal.returns-in-None
unfolding keys_text
returns-in-None c =
    rw (c.in-None.is, append-nil ((field KD).print (kd_of c.args.first.now))) c.put_kd-a.ensures

pub returns-in-Some : goal.returns-in-Some
unfolding keys_text
returns-in-Some c = rw c.in-Some.is (wrote_rest c.put_kd-a.ensures c.put_kd.ensures)
