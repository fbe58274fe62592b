-- What the whole value shows of its members.
use Rattle.std.proofs.Common.{◌≡◌, ◌≢◌, ◌∷◌, [], ℕ, List, String, refl}
use Rattle.std.specs.declared.alloc.Global.{Global}
use Rattle.serde_json.specs.Data.{Num, Data, Members, member}
use Rattle.serde_json.specs.View.{members_view}
use Rattle.serde_json.specs.declared.value.Value.{Value}
use Rattle.robust_cert.specs.Json.{members_data}

-- a fourth member is one too many
pub not_four : (before later last : Members) (rest : List (String Global × Value)) (k l m : List ℕ) (e f g : Data)
    → before ≡ member k e later → later ≡ member l f last → last ≡ member m g (members_view rest) → rest ≢ [] → (entries levels : Data) (version : Num) → before ≢ members_data entries levels version
not_four before later last [] k l m e f g a b c some entries levels version h = some refl
not_four before later last (x ∷ xs) k l m e f g a b c some entries levels version h = absurd (cc)
