-- The byte of a character of ASCII, as `code "\n"`, for the clauses of the code.
pub use Prim.Native.Char.{code}
