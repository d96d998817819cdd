-- What the code's answers say.
use Rattle.std.specs.Prelude.{ℕ, [], Option, None, Some, option_map, Result, Ok, Err}
use Rattle.time.specs.Reply.{Carried, Reply, answer, refusal, nothing}
use Rattle.map_file.specs.Form.{Name}
use Rattle.map_file.specs.Reads.{bytes_of, part_at}
use Rattle.map_file.specs.declared.record.Name.{Name as Placed}
use Rattle.map_file.specs.declared.form.FormError.{FormError}

-- a file of wrong form: 18
abbrev pub refusal_of : FormError → ℕ × Carried
refusal_of e = (18, nothing)

-- the name of a number, or none; or 18
abbrev pub name_read : Result (Option Placed) FormError → Reply (Option Name)
name_read (Ok name) = answer (option_map bytes_of name)
name_read (Err e) = refusal 18 nothing

-- its part of the file, by its place and its count of bytes; none; or 18
abbrev pub part_read : Result (Option Placed) FormError → Reply (Option (ℕ × ℕ))
part_read (Ok name) = answer (option_map part_at name)
part_read (Err e) = refusal 18 nothing

-- a name handed back: no bytes where there is none, since a name has at least one
abbrev pub handed_back : Reply (Option Name) → Name
handed_back (answer (Some name)) = name
handed_back (answer None) = []
handed_back (refusal k c) = []
