-- The numbers that C hands over and gets.
use Rattle.std.specs.Prelude.{cond, not, List, ℕ, length, eqb}
use Rattle.device.specs.declared.Device.{Device}
use Rattle.device.specs.declared.Device.TheVariants.{Fpu, NoFpu}
use Rattle.answers.specs.declared.Answer.{Answer}
use Rattle.answers.specs.Outcomes.{answer_of, buffer_of}
use Rattle.carried.specs.Convention.{read_into, write_into}
use Rattle.carried.specs.Calls.{Result, Functions}
use Rattle.o32.specs.O32.{O32}
use Rattle.varargs.specs.Walking.{walk_into}
use Rattle.varargs.specs.Varargs.{Walker}
use Rattle.plans.specs.Plans.{make_into, fill_into, signature_into}
use Rattle.plans.specs.Pair.{Pair}
use Rattle.descriptions.specs.Structures.{Structure}
use Rattle.descriptions.specs.Describing.{described}
use Rattle.frame.specs.declared.Request.{Request}
use Rattle.frame.specs.Layout.{Layout}
use Rattle.prologues.specs.Verdict.{Verdict}
use Rattle.prologues.specs.Checking.{checked}
use Rattle.capi.specs.declared.O32Answer.{O32Answer}
use Rattle.capi.specs.declared.O32Layout.{O32Layout}
use Rattle.capi.specs.declared.O32Structure.{O32Structure}
use Rattle.capi.specs.declared.O32Verdict.{O32Verdict}

-- An answer, number by number.
abbrev pub narrow : Answer → O32Answer
narrow a = record { refusal = a.refusal; place = a.place; argument = a.argument; length = a.length }

-- A layout, number by number. C gets a yes or no as 1 or 0.
abbrev pub layout_numbers : Layout → O32Layout
layout_numbers y = record {
  refusal = y.refusal;
  place = y.place;
  frame = y.frame;
  build = y.build;
  floating = y.floating;
  general = y.general;
  locals = y.locals;
  gp_saved = cond y.gp_saved 1 0;
  gp = y.gp;
}

-- A structure that was described, number by number.
abbrev pub structure_numbers : Structure → O32Structure
structure_numbers x = record { refusal = x.refusal; place = x.place; size = x.size; alignment = x.alignment; kind = x.kind }

-- A verdict on a prologue, number by number.
abbrev pub verdict_numbers : Verdict → O32Verdict
verdict_numbers x = record { refusal = x.refusal; place = x.place; verdict = x.verdict }

-- What a caller in C gets from a call: the numbers of its answer, and its buffer afterwards.
abbrev pub result_for_c : O32Answer → List ℕ → Result
result_for_c a out = record { refusal = a.refusal; place = a.place; argument = a.argument; length = a.length; buffer = out }

-- A device. 0 is the one with a floating-point unit, any other number the one without.
abbrev pub device_of : ℕ → Device
device_of n = cond (eqb n 0) Fpu NoFpu

-- A request. C says whether a routine is a leaf by a number: 0 is no, any other yes.
abbrev pub request_of : ℕ → ℕ → ℕ → ℕ → ℕ → Request
request_of leaf locals outgoing general pairs = record {
  leaf = not (eqb leaf 0);
  locals = locals;
  outgoing = outgoing;
  general = general;
  pairs = pairs;
}

-- `o32_read` and `o32_write` with this device, as their contracts say.
abbrev pub functions_for_c : ℕ → Functions
functions_for_c device = record {
  read = λ sig img out.
      result_for_c (narrow (answer_of (read_into (O32 (device_of device)) sig img (length out)))) (buffer_of (read_into (O32 (device_of device)) sig img (length out)) out);
  write = λ list out. result_for_c (narrow (answer_of (write_into (O32 (device_of device)) list (length out)))) (buffer_of (write_into (O32 (device_of device)) list (length out)) out);
}

-- `o32_walk` with this device, likewise.
abbrev pub walker_for_c : ℕ → Walker
walker_for_c device sig img out =
    result_for_c (narrow (answer_of (walk_into (device_of device) sig img (length out)))) (buffer_of (walk_into (device_of device) sig img (length out)) out)

-- `o32_make_plan` and `o32_fill` with this device, and `o32_signature`, which has none, likewise.
abbrev pub pair_for_c : ℕ → Pair
pair_for_c device = record {
  make = λ sig lent. result_for_c (narrow (answer_of (make_into (device_of device) sig (length lent)))) (buffer_of (make_into (device_of device) sig (length lent)) lent);
  fill = λ given list out.
      result_for_c (narrow (answer_of (fill_into (device_of device) given list (length out)))) (buffer_of (fill_into (device_of device) given list (length out)) out);
  signature = λ list lent. result_for_c (narrow (answer_of (signature_into (device_of device) list (length lent)))) (buffer_of (signature_into (device_of device) list (length lent)) lent);
}

-- `o32_describe`, as its contract says: the numbers that a caller in C gets.
abbrev pub describer_for_c : List ℕ → Structure
describer_for_c bytes =
    let x : O32Structure = structure_numbers (described bytes) in
    record { refusal = x.refusal; place = x.place; size = x.size; alignment = x.alignment; kind = x.kind }

-- `o32_check_prologue`, likewise.
abbrev pub checker_for_c : Device → Request → List ℕ → Verdict
checker_for_c d r code =
    let x : O32Verdict = verdict_numbers (checked d r code) in
    record { refusal = x.refusal; place = x.place; verdict = x.verdict }
