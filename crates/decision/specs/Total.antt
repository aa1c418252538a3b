-- The book is total.
use Rattle.std.specs.Prelude.{Result}
use Rattle.constraints.specs.declared.fault.Fault.{Fault}
use Rattle.book.specs.declared.calls.Call.{Call}
use Rattle.book.specs.declared.calls.Answer.{Answer}
use Rattle.book.specs.Books.{Rules, Book, Says}

-- a book has an answer to every call
abbrev pub SomeAnswer : Type 0
SomeAnswer = (k : Rules) (b : Book) (c : Call) → (v : Result Answer Fault) × Says k b c v
