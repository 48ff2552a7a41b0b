-- The numbers that documents 01 and 02 give to refusals ("Refusal numbers").
use Rattle.std.specs.Prelude.{ℕ}
use Rattle.answers.specs.declared.Cause.{Cause}
use Rattle.answers.specs.declared.Cause.TheVariants as C

abbrev pub number : Cause → ℕ
number C.UnknownKind = 1
number C.Misplaced = 2
number C.TooManyArguments = 3
number C.BodyCutOff = 4
number C.BeyondArea = 5
number C.ImageLength = 6
number C.BufferTooShort = 7
number C.Unpromoted = 8
number C.Unsavable = 9
number C.ReturnLost = 10
number C.TooManyLocals = 11
number C.TooMuchOutgoing = 12
number C.CodeBufferTooShort = 13
number C.NoPairs = 14
number C.Unmarked = 15
number C.Malformed = 16
number C.TooDeep = 17
number C.TooLong = 18
number C.NoKind = 19
number C.OtherPlan = 20
number C.CodeLength = 21
