-- What the words of a fault of a certificate have to say.
use Rattle.std.specs.Prelude.{ℕ, ◌≡◌, ◌==◌, Bool, if◌then◌else◌, List, [], ◌∷◌, ◌++◌, Option, Some, None, codes, length, map, option_map, slice_get, slice_index_or, zip}
use Rattle.std.specs.Fmt.{decimal}
use Rattle.std.specs.List.{prefix_len}
use Rattle.std.specs.Option.{option_map_or}
use Rattle.text_places.specs.Listing.{listed}
use Rattle.prog_check.specs.declared.path.Path.{Path}
use Rattle.prog_paths.specs.Limits.{most_questions}
use Rattle.robust_cert.specs.Accepted.{body_size, level_of}
use Rattle.robust_cert.specs.Reading.{IsTextOf}
use Rattle.robust_cert.specs.Sharing.{Entry}
use Rattle.robust_cert.specs.declared.certificate.Certificate.{Certificate}
use Rattle.robust_cert.specs.declared.certificate.EntryQuestion.{EntryQuestion}
use Rattle.robust_cert.specs.declared.fault.CertFault.{CertFault}
use Rattle.robust_cert.specs.declared.fault.CertFault.TheVariants as c
use Rattle.robust_cert.specs.declared.fault.JsonFault.{JsonFault}
use Rattle.robust_cert.specs.declared.fault.JsonFault.TheVariants as j
use Rattle.analysis_words.specs.Nodes.{node_name, IsAccessText, Sight}

-- the bytes are the text of no certificate
abbrev pub IsNoCertificate : List ℕ → Type 0
IsNoCertificate bytes = (certificate : Certificate) → ¬ IsTextOf certificate bytes

-- the number of a node in a list; one that has none counts as 0
abbrev pub number_at : List ℕ → (node : ℕ) → ℕ
number_at numbers node = slice_index_or numbers node 0

-- a level and the node that has it, as ``2 of `Pay:t` ``
abbrev pub level_text : Sight → Certificate → (node : ℕ) → List ℕ
level_text sight certificate node =
    decimal (level_of certificate node) ++ (codes " of " ++ node_name sight node)

-- the levels of nodes, as ``2 of `Pay:t`, 3 of `Pay:e` ``
abbrev pub level_list : Sight → Certificate → (nodes : List ℕ) → List ℕ
level_list sight certificate nodes = listed (map (level_text sight certificate) nodes)

abbrev pub entry_text : (entry : ℕ) → List ℕ
entry_text entry = codes "entry " ++ (decimal entry ++ codes ": ")

-- the number that `bodies` tells of a path is that of its accesses in bodies
abbrev pub is_told : ℕ × Path → Bool
is_told (told, path) = told == body_size path

-- the first node of which `bodies` tells another number than it has; one that there is none of, where all are right
abbrev pub first_mistold : (bodies : List ℕ) → List Path → ℕ
first_mistold bodies paths = prefix_len is_told (zip bodies paths)

-- how many of its accesses stand in bodies; none where there is no such node
abbrev pub body_size_at : List Path → (node : ℕ) → ℕ
body_size_at paths node = option_map_or body_size (slice_get paths node) 0

-- how many accesses of a node stand in bodies, by a certificate and by the paths
abbrev pub mistold_text : Sight → Certificate → (node : ℕ) → List ℕ
mistold_text sight certificate node =
    codes "bodies: " ++ (decimal (number_at certificate.bodies node) ++ (codes " of " ++ (node_name sight node
    ++ (codes ", which has " ++ (decimal (body_size_at sight.paths node) ++ codes "; ")))))

abbrev pub count_text : (what : List ℕ) → (count nodes : ℕ) → List ℕ
count_text what count nodes = what ++ (codes ": " ++ (decimal count ++ (codes ", nodes: " ++ (decimal nodes ++ codes "; "))))

-- how many levels and nodes there are; or where these are as many, how many numbers of `bodies`; or where those are
-- too, the first of these numbers that is wrong
abbrev pub counts_text : Sight → Certificate → List ℕ
counts_text sight certificate =
    if length certificate.levels == length sight.paths
    then (if length certificate.bodies == length sight.paths
    then mistold_text sight certificate (first_mistold certificate.bodies sight.paths)
    else count_text (codes "bodies") (length certificate.bodies) (length sight.paths))
    else count_text (codes "levels") (length certificate.levels) (length sight.paths)

-- the levels of nodes that edges join
abbrev pub along_text : Sight → Certificate → (nodes : List ℕ) → List ℕ
along_text sight certificate nodes = codes "levels " ++ (level_list sight certificate nodes ++ codes ": ")

-- what the words begin with: the entry that the line of the fault names, or the levels of its nodes, or the counts that
-- are not those of the nodes
abbrev pub front_of : Sight → Certificate → CertFault → List ℕ
front_of sight certificate (c.NoSuchEntry entry) = entry_text entry
front_of sight certificate (c.EntryOrder entry) = entry_text entry
front_of sight certificate (c.BadCover entry) = entry_text entry
front_of sight certificate (c.BadChain entry) = entry_text entry
front_of sight certificate (c.LevelFalls x y) = along_text sight certificate (x ∷ y ∷ [])
front_of sight certificate (c.Dangerous x y z) = along_text sight certificate (x ∷ y ∷ z ∷ [])
front_of sight certificate c.PathCount = counts_text sight certificate
front_of sight certificate c.TooLarge =
    codes "more than " ++ (decimal most_questions ++ codes " pairs of accesses would have to be compared")
front_of sight certificate c.Memory = codes "memory ran out"

-- what does not hold of the entry, or of the levels
abbrev pub broken_rule : CertFault → List ℕ
broken_rule (c.NoSuchEntry entry) = codes "these two ask nothing of one another"
broken_rule (c.EntryOrder entry) = codes "entries stand in the order of their nodes and accesses, and this one does not"
broken_rule (c.BadCover entry) =
    codes "a cover is of a read that may miss a write, by two changes of one table, with two chains a key column; what stands in the body of an `each` covers nothing"
broken_rule (c.BadChain entry) = codes "a chain is none, or runs elsewhere; each step has to follow from where the two meet"
broken_rule (c.LevelFalls x y) = codes "along an edge that no entry takes away the level may not fall"
broken_rule (c.Dangerous x y z) = codes "over two vulnerable edges in a row the level has to rise"
broken_rule c.PathCount =
    codes "a certificate has for each node, which is a way through a program that commits, a level and how many of its accesses stand in the body of an `each`: none of any in version 1"
broken_rule c.TooLarge = []
broken_rule c.Memory = []

-- the entry that a fault is about
abbrev pub entry_of : CertFault → Option ℕ
entry_of (c.NoSuchEntry entry) = Some entry
entry_of (c.EntryOrder entry) = Some entry
entry_of (c.BadCover entry) = Some entry
entry_of (c.BadChain entry) = Some entry
entry_of (c.LevelFalls x y) = None
entry_of (c.Dangerous x y z) = None
entry_of c.PathCount = None
entry_of c.TooLarge = None
entry_of c.Memory = None

-- the question of an entry of a certificate
abbrev pub asked_in : Certificate → (entry : ℕ) → Option EntryQuestion
asked_in certificate entry = option_map (λ (e : Entry). e.question) (slice_get certificate.entries entry)

-- the words name both accesses of a question, if there is one
abbrev pub IsQuestionText : Sight → Option EntryQuestion → (words : List ℕ) → Type 0
IsQuestionText sight None words = words ≡ codes "its question"
IsQuestionText sight (Some q) words =
    (mine theirs : List ℕ) × IsAccessText sight q.x q.a mine × IsAccessText sight q.y q.b theirs
    × (words ≡ mine ++ (codes " against " ++ theirs))

-- the words name the question of an entry before what does not hold of it; where no entry is meant there are none
abbrev pub IsAskedText : Sight → Certificate → (entry : Option ℕ) → (words : List ℕ) → Type 0
IsAskedText sight certificate None words = words ≡ []
IsAskedText sight certificate (Some entry) words =
    (question : List ℕ) × IsQuestionText sight (asked_in certificate entry) question × (words ≡ question ++ codes ": ")

-- the words of a fault of a certificate for a set of these paths
abbrev pub IsOfFault : Sight → Certificate → CertFault → (words : List ℕ) → Type 0
IsOfFault sight certificate fault words =
    (asked : List ℕ) × IsAskedText sight certificate (entry_of fault) asked
    × (words ≡ front_of sight certificate fault ++ (asked ++ (broken_rule fault ++ codes "\n")))

-- the words of a fault of the certificate that the bytes are
abbrev pub IsSaidOf : Sight → (bytes : List ℕ) → CertFault → (words : List ℕ) → Type 0
IsSaidOf sight bytes fault words =
    (certificate : Certificate) × IsTextOf certificate bytes × IsOfFault sight certificate fault words

-- why bytes are no certificate
abbrev pub json_words : JsonFault → List ℕ
json_words j.NotJson = codes "the second part is no JSON, in which a certificate is written\n"
json_words j.WrongShape = codes "a certificate is an object with just `entries`, `levels` and `version`, and of version 2 `bodies` too\n"
json_words j.WrongVersion = codes "the version of the certificate is neither 1 nor 2\n"
json_words j.Memory = codes "memory ran out\n"
