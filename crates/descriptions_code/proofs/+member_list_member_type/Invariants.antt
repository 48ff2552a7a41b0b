-- `member_list` and `member_type`, which call each other, end: fewer bytes are left where a structure is opened, and where a member is
-- asked for the measure below falls.
use Rattle.std.proofs.Common.{◌+◌, ◌-◌, ◌*◌, length}
use Rattle.descriptions_code.proofs.Members.{MembersRead}
use Rattle.descriptions_code.proofs.+member_list_member_type.Given as goal

-- twice the bytes left, and one more for `member_list`, which may call `member_type` where it starts itself
abbrev pub decreases-member_list : goal.decreases-member_list
decreases-member_list l = 2 * (length l.description.now - l.start) + 1

abbrev pub decreases-member_type : goal.decreases-member_type
decreases-member_type l = 2 * (length l.description.now - l.at)

abbrev pub invariant-member_list-loop-at : goal.invariant-member_list-loop-at
invariant-member_list-loop-at l = MembersRead l.description l.start l.depth l.end l.strictest l.at

abbrev pub decreases-member_list-loop-at : goal.decreases-member_list-loop-at
decreases-member_list-loop-at l = length l.description - l.at
