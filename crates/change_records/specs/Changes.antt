-- The change of a line.
use Rattle.std.specs.Prelude.{ℕ, ◌==◌, ◌&&◌, nat_le, Bool, false, List, [], ◌∷◌, codes, length, if◌then◌else◌, Option, Some, None, option_map, option_and_then}
use Rattle.serde_json.specs.Data.{Data}
use Rattle.serde_json.specs.Find.{get, as_str}
use Rattle.osq_value.specs.declared.value.Value.{Value}
use Rattle.change_records.specs.declared.change.Change.{Change}
use Rattle.change_records.specs.Fields.{number_of, text_of}

-- the text of a member
abbrev pub text_at : List ℕ → Data → Option (List ℕ)
text_at key line = option_and_then as_str (get key line)

-- a path begins with `/`
abbrev pub is_path : List ℕ → Bool
is_path [] = false
is_path (byte ∷ rest) = byte == 47

abbrev pub path_of : Option Data → Option (List ℕ)
path_of member = option_and_then (λ path. if is_path path then Some path else None) (option_and_then as_str member)

-- an action has 1 to 64 bytes
abbrev pub action_of : Option Data → Option (List ℕ)
action_of member =
    option_and_then (λ action. if nat_le 1 (length action) && nat_le (length action) 64 then Some action else None) (option_and_then as_str member)

abbrev pub numbers_of : Option Data → Option Data → Option Data → Option Data → Option Data → Option (List Value)
numbers_of inode uid gid size mtime =
    option_and_then (λ inode. option_and_then (λ uid. option_and_then (λ gid. option_and_then (λ size. option_map (λ mtime. inode ∷ uid ∷ gid ∷ size ∷ mtime ∷ [])
    (number_of mtime)) (number_of size)) (number_of gid)) (number_of uid)) (number_of inode)

abbrev pub change : List ℕ → List ℕ → List Value → Value → Value → Change
change path action numbers mode time = record { path = path; action = action; numbers = numbers; mode = mode; time = time }

-- the change of what a line has at the keys of these names
unfoldable pub change_with : Option Data → Option Data → Option Data → Option Data → Option Data → Option Data → Option Data → Option Data → Option Data → Option Change
change_with path action inode uid gid size mtime mode time =
    option_and_then (λ path. option_and_then (λ action. option_and_then (λ numbers. option_and_then (λ mode. option_map (change path action numbers mode)
    (number_of time)) (text_of mode)) (numbers_of inode uid gid size mtime)) (action_of action)) (path_of path)

unfoldable pub change_of : Data → Option Change
change_of line =
    change_with (get (codes "path") line) (get (codes "action") line) (get (codes "inode") line) (get (codes "uid") line) (get (codes "gid") line)
    (get (codes "size") line) (get (codes "mtime") line) (get (codes "mode") line) (get (codes "time") line)
