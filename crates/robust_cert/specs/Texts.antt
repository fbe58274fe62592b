-- The texts of faults.
use Rattle.std.specs.Fmt.{decimal}
use Rattle.std.specs.Prelude.{ℕ, List, ◌++◌, codes}
use Rattle.robust_cert.specs.declared.fault.CertFault.{CertFault}
use Rattle.robust_cert.specs.declared.fault.CertFault.TheVariants as fault
use Rattle.robust_cert.specs.declared.fault.JsonFault.{JsonFault}
use Rattle.robust_cert.specs.declared.fault.JsonFault.TheVariants as json

-- a number behind a space
abbrev pub spaced : ℕ → List ℕ
spaced n = codes " " ++ decimal n

-- why bytes are no certificate
abbrev pub json_fault_text : JsonFault → List ℕ
json_fault_text json.NotJson = codes "J1"
json_fault_text json.WrongShape = codes "J2"
json_fault_text json.WrongVersion = codes "J3"
json_fault_text json.Memory = codes "memory"

-- why a certificate is not accepted: a code, and the entry from 0, or the nodes
abbrev pub cert_fault_text : CertFault → List ℕ
cert_fault_text fault.PathCount = codes "K1"
cert_fault_text (fault.NoSuchEntry entry) = codes "K2" ++ spaced entry
cert_fault_text (fault.EntryOrder entry) = codes "K3" ++ spaced entry
cert_fault_text (fault.BadChain entry) = codes "K4" ++ spaced entry
cert_fault_text (fault.BadCover entry) = codes "K5" ++ spaced entry
cert_fault_text (fault.LevelFalls x y) = codes "K6" ++ (spaced x ++ spaced y)
cert_fault_text (fault.Dangerous x y z) = codes "K7" ++ (spaced x ++ (spaced y ++ spaced z))
cert_fault_text fault.TooLarge = codes "K8"
cert_fault_text fault.Memory = codes "memory"
