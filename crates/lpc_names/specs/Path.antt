-- A path as the list of its components, and the texts that spell one.
use Rattle.std.specs.Prelude.{ℕ, suc, ◌+◌, ◌≤◌, ◌==◌, nat_lt, nat_eq, Bool, ◌||◌, if◌then◌else◌, List, [], ◌∷◌, length, Result, Ok, Err}
use Rattle.std.specs.List.{list_any}
use Rattle.std.specs.Cmp.Lexicographic.{pointwise}
use Rattle.lpc_names.specs.declared.fault.NameFault.{NameFault}
use Rattle.lpc_names.specs.declared.fault.NameFault.TheVariants.{PathSyntax, NameInvalid}

-- the components from the root on, each as its bytes; the root itself has none
abbrev pub Path : Type 0
Path = List (List ℕ)

-- names compare byte for byte
abbrev pub same_path : Path → Path → Bool
same_path = pointwise (pointwise nat_eq)

-- a byte in front of the first part
abbrev pub onto_first : ℕ → Path → Path
onto_first byte [] = (byte ∷ []) ∷ []
onto_first byte (part ∷ parts) = (byte ∷ part) ∷ parts

-- the parts of a text between its backslashes
abbrev pub parts_of : List ℕ → Path
parts_of [] = [] ∷ []
parts_of (byte ∷ bytes) = if byte == 92 then [] ∷ parts_of bytes else onto_first byte (parts_of bytes)

-- a text without a byte
abbrev pub is_empty : List ℕ → Bool
is_empty text = length text == 0

-- how many bytes a path has: its components, each with the backslash in front of it
abbrev pub size_of : Path → ℕ
size_of [] = 0
size_of (name ∷ names) = suc (length name) + size_of names

-- a path has 256 bytes at most
abbrev pub is_too_long : Path → Bool
is_too_long path = nat_lt 256 (size_of path)

-- a text is no longer than a path
abbrev pub IsWithinPath : List ℕ → Type 0
IsWithinPath text = length text ≤ 256

-- components behind the first backslash: none of them is empty, and the path isn't too long
abbrev pub sound : Path → Result Path NameFault
sound path = if list_any is_empty path || is_too_long path then Err NameInvalid else Ok path

-- the components that stand behind the first backslash; the root where nothing does
abbrev pub behind_root : List ℕ → Result Path NameFault
behind_root [] = Ok []
behind_root (byte ∷ bytes) = sound (parts_of (byte ∷ bytes))

-- the path that a text spells: the text begins with a backslash
abbrev pub spelled : List ℕ → Result Path NameFault
spelled [] = Err PathSyntax
spelled (first ∷ names) = if first == 92 then behind_root names else Err PathSyntax
