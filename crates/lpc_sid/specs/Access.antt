-- What an access list grants a token.
use Rattle.std.specs.Prelude.{◌≡◌, ℕ, ◌==◌, Bool, true, false, ◌&&◌, ◌||◌, List, [], ◌∷◌, bit_and, bit_xor, Option, Some, None, if◌then◌else◌, not}
use Rattle.std.specs.Int.{bit_at}
use Rattle.std.specs.List.{list_any}
use Rattle.std.specs.Str.{bytes_eq}
use Rattle.lpc_base.specs.Rows.{first, passes}
use Rattle.lpc_sid.specs.declared.access.Ace.{Ace}
use Rattle.lpc_sid.specs.declared.access.Dacl.{Dacl}
use Rattle.lpc_sid.specs.declared.sid.Sid.{Sid}
use Rattle.lpc_sid.specs.declared.token.Token.{Token}

-- two SIDs are one
abbrev pub same_sid : Sid → Sid → Bool
same_sid a b = (a.authority == b.authority) && bytes_eq a.subs.items b.subs.items

-- a SID is the token's user or one of its groups
abbrev pub has_sid : Token → Sid → Bool
has_sid token sid = same_sid token.user sid || list_any (λ group. same_sid group sid) token.groups.items

-- an entry names a right of these
abbrev pub names_any : Ace → ℕ → Bool
names_any ace rights = not (bit_and ace.mask rights == 0)

-- rights without those of a mask
abbrev pub rights_without : ℕ → ℕ → ℕ
rights_without rights mask = bit_xor rights (bit_and rights mask)

-- Entries, read in order, grant the rights that are still wanted. The check succeeds once none is left, and is refused
-- at the end of the list. An entry that doesn't count for the token is passed over. An allow entry grants its rights; a
-- deny entry that names a right still wanted refuses.
abbrev pub grants_left : Token → ℕ → List Ace → Bool
grants_left token left [] = left == 0
grants_left token left (ace ∷ aces) =
    if left == 0 then true
    else (if not (has_sid token ace.sid) then grants_left token left aces
    else (if ace.allow then grants_left token (rights_without left ace.mask) aces
    else (if names_any ace left then false
    else grants_left token left aces)))

-- no list grants all
abbrev pub grants : Token → Option Dacl → ℕ → Bool
grants token None wanted = true
grants token (Some dacl) wanted = grants_left token wanted dacl.list.items

-- a mask has the right of this number
abbrev pub has_right : ℕ → ℕ → Bool
has_right mask right = bit_at mask right == 1

-- the entry that decides on a right: the first that counts for the token and names the right
abbrev pub deciding_entry : Token → ℕ → List Ace → Option Ace
deciding_entry token right aces = first (λ ace. has_sid token ace.sid && has_right ace.mask right) aces

-- a right is granted: there is an entry that decides on it, and that allows
abbrev pub grants_right : Token → ℕ → List Ace → Bool
grants_right token right aces = passes (deciding_entry token right aces) (λ ace. ace.allow)

-- each wanted right is granted for itself; all are where there is no list
abbrev pub GrantsEach : Token → Option Dacl → ℕ → Type 0
GrantsEach token None wanted = Unit {0}
GrantsEach token (Some dacl) wanted =
    (right : ℕ) → has_right wanted right ≡ true → grants_right token right dacl.list.items ≡ true
