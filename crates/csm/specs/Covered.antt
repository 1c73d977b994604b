-- The part of a KSM or an RSM that its MAC covers: from the M of `MCL/` through the blank before `MAC/`.
use Rattle.std.specs.Prelude.{cond, [], ◌∷◌, ◌++◌, ℕ, drop, Option, None, Some}
use Rattle.octets.specs.Text.{Text, ascii, starts}
use Rattle.csm.specs.Fields.{NOS, KD, IV, EDK, CTP}
use Rattle.csm.specs.Message.{Row, one, opt, Values, fields, head_row, flagged, head_of}
use Rattle.csm.specs.Message.{Ksm, Body, rsi, ksm, rsm, esm, option, Reading}

-- what stands before the first w of a text
abbrev pub before : Text → Text → Text
before w [] = []
before w (x ∷ s) = cond (starts w (x ∷ s)) [] (x ∷ before w s)

-- of the text: what stands after `CSM(` and before `MAC/`
unfoldable pub covered : Text → Text
covered t = before (ascii "MAC/") (drop 4 t)

-- the classes that have a MAC
abbrev pub mac_of : Body → Option ℕ
mac_of (rsi r) = None
mac_of (ksm r) = Some r.mac
mac_of (rsm r) = Some r.mac
mac_of (esm r) = None
mac_of (option c w) = None

-- of the reading: the head, then the fields before MAC
abbrev pub keyed_row : Row
keyed_row = opt NOS ∷ one KD ∷ opt KD ∷ opt IV ∷ opt EDK ∷ one CTP ∷ []

-- their values
abbrev pub keyed_values : Ksm → Values keyed_row
keyed_values r = (flagged r.nos, (r.kd, (r.second, (r.iv, (r.edk, (r.ctp, tt))))))

-- the fields between head and MAC
abbrev pub covered_fields : Body → Text
covered_fields (rsi r) = []
covered_fields (ksm r) = (fields keyed_row []).print (keyed_values r)
covered_fields (rsm r) = []
covered_fields (esm r) = []
covered_fields (option c w) = []

-- the whole part
unfoldable pub covered_part : Reading → Text
covered_part r = (fields head_row []).print (head_of r) ++ covered_fields r.body
