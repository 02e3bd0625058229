-- The change of a line by the members that were found.
use Rattle.std.proofs.Common.{◌≡◌, codes, refl, Option, Some, None, option_map, option_and_then}
use Rattle.serde_json.specs.Data.{Data, null, boolean, number, string, array, object, Members}
use Rattle.serde_json.specs.Find.{as_str, get}
use Rattle.change_records.specs.Changes.{change_of, change_with}
use Rattle.change_records.specs.Fields.{number_of, text_of}
use Rattle.change_records.specs.Tokens.{surface}

str_shown : (member : Option Data) → option_and_then as_str (option_map surface member) ≡ option_and_then as_str member
str_shown None = refl
str_shown (Some null) = refl
str_shown (Some (boolean b)) = refl
str_shown (Some (number n)) = refl
str_shown (Some (string s)) = refl
str_shown (Some (array ds)) = refl
str_shown (Some (object ms)) = refl

number_shown : (member : Option Data) → number_of (option_map surface member) ≡ number_of member
number_shown None = refl
number_shown (Some null) = refl
number_shown (Some (boolean b)) = refl
number_shown (Some (number n)) = refl
number_shown (Some (string s)) = refl
number_shown (Some (array ds)) = refl
number_shown (Some (object ms)) = refl

text_shown : (member : Option Data) → text_of (option_map surface member) ≡ text_of member
text_shown None = refl
text_shown (Some null) = refl
text_shown (Some (boolean b)) = refl
text_shown (Some (number n)) = refl
text_shown (Some (string s)) = refl
text_shown (Some (array ds)) = refl
text_shown (Some (object ms)) = refl

change_shown : (path action inode uid gid size mtime mode time : Option Data)
    → change_with (option_map surface path) (option_map surface action) (option_map surface inode) (option_map surface uid) (option_map surface gid) (option_map surface size)
    (option_map surface mtime) (option_map surface mode) (option_map surface time) ≡ change_with path action inode uid gid size mtime mode time
unfolding change_with
change_shown path action inode uid gid size mtime mode time =
    rw (str_shown path, str_shown action, number_shown inode, number_shown uid, number_shown gid, number_shown size, number_shown mtime, text_shown mode, number_shown time)

pub change_same : (line : Data) (path action inode uid gid size mtime mode time : Option Data) → path ≡ option_map surface (get (codes "path") line)
    → action ≡ option_map surface (get (codes "action") line) → inode ≡ option_map surface (get (codes "inode") line) → uid ≡ option_map surface (get (codes "uid") line)
    → gid ≡ option_map surface (get (codes "gid") line) → size ≡ option_map surface (get (codes "size") line) → mtime ≡ option_map surface (get (codes "mtime") line)
    → mode ≡ option_map surface (get (codes "mode") line) → time ≡ option_map surface (get (codes "time") line) → change_with path action inode uid gid size mtime mode time ≡ change_of line
unfolding change_of
change_same line path action inode uid gid size mtime mode time of_path of_action of_inode of_uid of_gid of_size of_mtime of_mode of_time =
    let shown = change_shown (get (codes "path") line) (get (codes "action") line) (get (codes "inode") line) (get (codes "uid") line) (get (codes "gid") line) (get (codes "size") line)
    (get (codes "mtime") line) (get (codes "mode") line) (get (codes "time") line) in
    cc

-- only an object has the form of a change
pub no_change : (line : Data) → ((members : Members) → line ≡ object members → ⊥) → change_of line ≡ None
unfolding change_of change_with
no_change null none = refl
no_change (boolean b) none = refl
no_change (number n) none = refl
no_change (string s) none = refl
no_change (array ds) none = refl
no_change (object members) none = absurd (none members refl)
