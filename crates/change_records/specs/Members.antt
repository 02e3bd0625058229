-- For proofs of the code's steps, and no part of the meaning: the members of a line that a change has, found in one walk.
use Rattle.std.specs.Prelude.{◌≡◌, ℕ, List, bytes_eq, codes, if◌then◌else◌, Option, Some, option_map}
use Rattle.serde_json.specs.Data.{Data, Members}
use Rattle.serde_json.specs.Find.{get_member}
use Rattle.change_records.specs.declared.members.Members.{Members as FoundMembers}
use Rattle.change_records.specs.declared.token.Shallow.{Shallow}
use Rattle.change_records.specs.Tokens.{shallow_view, surface}

-- the data of a member, if it is there
abbrev pub held : Option Shallow → Option Data
held member = option_map shallow_view member

-- what is found of a key, where one more member follows: the last of the key stays
abbrev pub found_with : List ℕ → Option Data → List ℕ → Data → Option Data
found_with key found name value = if bytes_eq key name then Some value else found

abbrev pub IsAt : List ℕ → Members → Option Shallow → Type 0
IsAt key object member = held member ≡ option_map surface (get_member key object)

-- these are the members of the object
pub record AreOf (object : Members) (found : FoundMembers) : Type 0 where
  pub path : IsAt (codes "path") object found.path
  pub action : IsAt (codes "action") object found.action
  pub inode : IsAt (codes "inode") object found.inode
  pub uid : IsAt (codes "uid") object found.uid
  pub gid : IsAt (codes "gid") object found.gid
  pub size : IsAt (codes "size") object found.size
  pub mtime : IsAt (codes "mtime") object found.mtime
  pub mode : IsAt (codes "mode") object found.mode
  pub time : IsAt (codes "time") object found.time
