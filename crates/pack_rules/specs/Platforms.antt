-- On which platforms a list of words holds.
use Rattle.std.specs.Prelude.{ℕ, Bool, true, not, ◌&&◌, ◌||◌, if◌then◌else◌, List, [], ◌∷◌, bytes_eq, codes}
use Rattle.std.specs.List.{list_any}
use Rattle.pack_rules.specs.Parts.{parts_of, trimmed}

-- a word for every platform
abbrev pub is_for_all : List ℕ → Bool
is_for_all word = bytes_eq word (codes "any") || bytes_eq word (codes "all")

-- the name of a platform
abbrev pub is_platform : List ℕ → Bool
is_platform word =
    bytes_eq word (codes "darwin") || (bytes_eq word (codes "freebsd") || (bytes_eq word (codes "linux") || bytes_eq word (codes "windows")))

-- `any` and `all` hold always, `posix` on every platform but windows, and a platform's name on that one
abbrev pub word_holds : List ℕ → List ℕ → Bool
word_holds platform word =
    if is_for_all word then true
    else (if bytes_eq word (codes "posix") then not (bytes_eq platform (codes "windows"))
    else is_platform word && bytes_eq word platform)

abbrev pub part_holds : List ℕ → List ℕ → Bool
part_holds platform part = word_holds platform (trimmed part)

-- an empty text holds, and else one of the words between the commas
unfoldable pub platform_holds : List ℕ → List ℕ → Bool
platform_holds platform [] = true
platform_holds platform (byte ∷ bytes) = list_any (part_holds platform) (parts_of 44 (byte ∷ bytes))
