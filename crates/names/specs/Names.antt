-- The names of the commands.
--   name_of      which command a word names
--   form_of      what a line of a command is expected to be
use Rattle.std.specs.Prelude.{ℕ, cond, List, Some, None, codes, Option}
use Rattle.std.specs.Str.{bytes_eq}
use Rattle.names.specs.declared.name.Name.{Name}
use Rattle.names.specs.declared.name.Name.TheVariants as name

abbrev pub name_of : List ℕ → Option Name
name_of bs =
    cond (bytes_eq bs (codes "write")) (Some name.Write) (
    cond (bytes_eq bs (codes "erase")) (Some name.Erase) (
    cond (bytes_eq bs (codes "get")) (Some name.Get) (
    cond (bytes_eq bs (codes "range")) (Some name.Range) (
    cond (bytes_eq bs (codes "first")) (Some name.First) (
    cond (bytes_eq bs (codes "last")) (Some name.Last) (
    cond (bytes_eq bs (codes "count")) (Some name.Count) (
    cond (bytes_eq bs (codes "flush")) (Some name.Flush) (
    cond (bytes_eq bs (codes "compact")) (Some name.Compact) (
    cond (bytes_eq bs (codes "power")) (Some name.Power) (
    cond (bytes_eq bs (codes "help")) (Some name.Help) (
    cond (bytes_eq bs (codes "quit")) (Some name.Quit) None)))))))))))

abbrev pub form_of : Name → List ℕ
form_of name.Write = codes "what is expected is: write KEY MOMENT VALUE"
form_of name.Erase = codes "what is expected is: erase KEY MOMENT"
form_of name.Get = codes "what is expected is: get KEY MOMENT"
form_of name.Range = codes "what is expected is: range FROM TO MOMENT"
form_of name.First = codes "what is expected is: first MOMENT"
form_of name.Last = codes "what is expected is: last MOMENT"
form_of name.Count = codes "what is expected is: count MOMENT"
form_of name.Flush = codes "what is expected is: flush"
form_of name.Compact = codes "what is expected is: compact MOMENT"
form_of name.Power = codes "what is expected is: power, or power after N [LEFT ..]"
form_of name.Help = codes "what is expected is: help"
form_of name.Quit = codes "what is expected is: quit"
